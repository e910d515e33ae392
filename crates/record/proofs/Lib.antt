pub mod Frames
pub mod Parsing
pub mod Registers
