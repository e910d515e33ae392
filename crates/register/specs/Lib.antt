pub mod Algorithm4
pub mod EachRound
pub mod Lent
pub mod Order
pub mod Register
pub mod Sequences
