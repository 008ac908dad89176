pub mod Groups
pub mod Wire
