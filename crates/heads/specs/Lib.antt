pub mod Answered
pub mod Told
