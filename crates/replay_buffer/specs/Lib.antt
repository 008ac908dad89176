-- What the contracts of the replay buffer cite.
pub mod View
pub mod Push
pub mod Ack
pub mod Replay
