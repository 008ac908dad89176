-- What the contracts of the coalescing buffer cite.
pub mod Held
