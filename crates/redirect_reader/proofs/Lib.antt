pub mod Merges
pub mod Handles
pub mod Redirects
pub mod Claims
