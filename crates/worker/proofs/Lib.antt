-- The laws, for this crate's proofs and for those of its callers (`Lengths`, `Waiters`, `Watermark`).
pub mod Lengths
pub mod Shift
pub mod Waiters
pub mod Watermark
