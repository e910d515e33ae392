pub mod Demands
pub mod Eight
