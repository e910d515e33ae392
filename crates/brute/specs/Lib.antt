pub mod Erasures
pub mod Locating
pub mod Registers
