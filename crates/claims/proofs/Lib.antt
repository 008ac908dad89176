pub mod Sendable
pub mod Claim
pub mod Tied
pub mod Example
