pub mod Progress
pub mod Standing
pub mod Going
pub mod Playing
pub mod Opening
pub mod Whole
