-- The laws that the proofs of the calls cite, lowest first; each call's functions have their proofs in the folders beside.
pub mod Tests
pub mod Refused
pub mod First
pub mod Numbers
pub mod Views
pub mod Ends
pub mod Closing
pub mod Bare
pub mod Claim
