-- What the reader answers; `Fields` has what its private parts do, and no public contract cites it.
pub mod Places
pub mod Fields
