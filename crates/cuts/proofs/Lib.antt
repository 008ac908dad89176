pub mod Passing
pub mod Cutting
