pub mod Clipped
pub mod Decimal
pub mod Signs
