-- The laws, for this crate's proofs and for those of its callers (`Laws`, `Put`).
pub mod Paste
pub mod Rot
pub mod Laws
pub mod Put
pub mod Runs
pub mod Examples
