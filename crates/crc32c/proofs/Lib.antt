-- Laws for callers: `Bytes`, `Join` (sums joined and taken further), `Bound` (sums fit 32 bits), `Division` and `Unique` (RFC 3720's sum exists
-- and is the only one), `Rfc` (sums joined and taken further, by RFC 3720's definition). The others serve the proofs.
pub mod Bytes
pub mod Xor
pub mod Linear
pub mod Join
pub mod Bound
pub mod Operator
pub mod Made
pub mod Filled
pub mod Slicing
pub mod Sum
pub mod Division
pub mod Unique
pub mod Rfc
pub mod Vectors
