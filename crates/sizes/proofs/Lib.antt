pub mod Absorbing
pub mod Taking
