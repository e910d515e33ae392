pub mod Ran
pub mod Turned
