pub mod Number
pub mod Order
pub mod Outcome
pub mod Range
