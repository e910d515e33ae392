pub mod Block
pub mod Demands
pub mod Search
pub mod Values
