pub mod Ahead
pub mod Settled
