pub mod Filling
pub mod Handed
