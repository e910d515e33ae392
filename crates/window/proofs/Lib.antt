pub mod Filling
pub mod Putting
