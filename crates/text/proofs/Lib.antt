pub mod Digits
pub mod Lines
pub mod Numbers
pub mod Numerals
pub mod Spacing
pub mod Writing
