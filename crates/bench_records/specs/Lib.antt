pub mod Record
pub mod View
pub mod Example
