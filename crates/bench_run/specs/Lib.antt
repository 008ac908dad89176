pub mod Printed
pub mod Example
pub mod Stands
pub mod Turn
pub mod Feeds
pub mod Gathers
pub mod Run
pub mod Whole
