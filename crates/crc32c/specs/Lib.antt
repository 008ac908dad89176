-- What the contracts of CRC32C cite.
pub mod Bytes
pub mod Poly
pub mod Reg
pub mod Matrix
pub mod Table
