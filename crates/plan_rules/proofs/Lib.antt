-- What is claimed of a plan, proved, lowest first; then plans computed.
pub mod Unbounded
pub mod Counting
pub mod Calls
pub mod Drives
pub mod Planned
pub mod Enough
pub mod Examples
