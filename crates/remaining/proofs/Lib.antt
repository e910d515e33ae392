pub mod Multiples
pub mod RowLeft
pub mod RowsCompletable
pub mod RowsLeft
pub mod SequencesLent
