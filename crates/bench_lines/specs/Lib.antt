-- The lines of the bench program, in an order in which they can be read.
pub mod Text
pub mod View
