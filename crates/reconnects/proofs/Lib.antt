pub mod Detail
pub mod Following
pub mod Judging
pub mod Breaking
