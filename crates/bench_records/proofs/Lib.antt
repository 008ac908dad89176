-- For callers: `Sizes` (a record takes at least 2 bytes) and `Parts` (an input that comes in parts). `Encoding` has the round trip.
pub mod Little
pub mod Fields
pub mod Sizes
pub mod Encoding
pub mod Parts
