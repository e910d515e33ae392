pub mod Demands
pub mod Examples
pub mod Lines
pub mod Runs
pub mod Streams
