pub mod Admission
pub mod Payload
pub mod Started
pub mod Openings
pub mod Unopened
pub mod OpeningExamples
