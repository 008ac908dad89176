pub mod Steps
pub mod Examples
