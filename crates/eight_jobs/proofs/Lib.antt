pub mod Demands
pub mod Done
pub mod Longest
pub mod OneJob
pub mod Projecting
pub mod Reached
pub mod Steps
