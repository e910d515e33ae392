pub mod Multiples
pub mod Removable
pub mod SequencesLeft
pub mod Testable
