pub mod Writing
pub mod Range
pub mod Answer
