-- What the contracts of the ring cite.
pub mod Ring
