-- What the two readers answer; `Parts` has what their private parts do, and no public contract cites it.
pub mod Got
pub mod Found
pub mod Parts
