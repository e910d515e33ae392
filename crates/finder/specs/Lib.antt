pub mod Demands
pub mod Finder
