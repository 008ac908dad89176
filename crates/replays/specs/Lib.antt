pub mod Replay
pub mod Unsent
