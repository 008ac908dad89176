-- Protobuf's encoding as definitions, in an order in which they can be read.
pub mod Reading
pub mod Varint
pub mod Field
pub mod Slot
pub mod Message
