pub mod Change
pub mod Steps
