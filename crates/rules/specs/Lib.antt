-- Document 01 as definitions, in an order in which they can be read; docs/PAPER.md leads from the paper's sentences to them.
-- The session and its step rules
pub mod Basics
pub mod Limits
pub mod Message
pub mod Spec
pub mod Session
pub mod Upload
pub mod Respond
pub mod Reconnect
pub mod Replay
pub mod Step
pub mod Opening
-- the server, the host and what is claimed
pub mod Server
pub mod Notes
pub mod World
pub mod Program
pub mod Demand3
pub mod More
pub mod Past
pub mod Calls
pub mod Total
pub mod Released
pub mod Push
pub mod Bench
