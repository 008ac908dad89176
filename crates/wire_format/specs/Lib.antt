pub mod Message
pub mod Wire
