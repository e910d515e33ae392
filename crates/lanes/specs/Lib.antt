pub mod Lanes
pub mod Symbols
