pub mod Posed
pub mod Rounds
