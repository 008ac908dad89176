-- What the contracts of the calls cite.
pub mod View
pub mod Valid
pub mod Promise
pub mod Parts
pub mod Claim
