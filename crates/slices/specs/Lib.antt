pub mod Kept
pub mod Lent
pub mod Same
pub mod Synthesis
