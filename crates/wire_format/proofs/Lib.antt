pub mod Cost
pub mod Least
pub mod Back
pub mod Shortest
pub mod Room
pub mod Examples
