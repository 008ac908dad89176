-- Document 02's Q-6, "What a day will need", as definitions.
pub mod Unbounded
pub mod Plan
pub mod Claims
-- and how the code counts it
pub mod Counting
