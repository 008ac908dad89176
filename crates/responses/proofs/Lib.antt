pub mod Admitting
pub mod Preparing
pub mod Answering
pub mod Responding
