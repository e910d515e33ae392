pub mod Demands
pub mod Due
pub mod Examples
pub mod NextLine
pub mod Newlines
pub mod Parsed
pub mod Runs
pub mod Streams
