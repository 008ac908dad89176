pub mod Partial
pub mod Varint
pub mod Field
pub mod Message
pub mod Examples
