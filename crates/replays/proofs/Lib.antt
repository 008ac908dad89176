pub mod Replaying
pub mod Next
pub mod Unsending
