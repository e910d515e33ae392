pub mod Completing
pub mod Naming
