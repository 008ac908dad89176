-- What the paper marks and shows, computed from the definitions: nothing here need be believed.
pub mod Computed
pub mod Table
pub mod Points
pub mod Refusals
pub mod Cases
pub mod Releases
pub mod Past
pub mod Scenarios
