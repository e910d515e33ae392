pub mod Mendable
pub mod Mending
