pub mod Signs
pub mod Offsets
pub mod Rows
