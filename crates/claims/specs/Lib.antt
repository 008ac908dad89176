pub mod Claim
pub mod Sendable
pub mod Malformed
pub mod Past
pub mod Released
pub mod Plan
