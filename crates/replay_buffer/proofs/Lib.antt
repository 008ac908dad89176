-- The laws, for this crate's proofs and for those of its callers (`Laws`).
pub mod Chunks
pub mod Prefix
pub mod Laws
pub mod Rest
pub mod Pushing
pub mod Acking
pub mod Reading
pub mod Examples
