-- The laws, for this crate's proofs and for those of its callers (`Laws`).
pub mod Laws
