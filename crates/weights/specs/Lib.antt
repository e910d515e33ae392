pub mod Weighable
pub mod Weights
