pub mod Answers
pub mod Demands
pub mod Trials
pub mod Valuing
