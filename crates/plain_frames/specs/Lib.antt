pub mod Answers
pub mod Cells
pub mod Frames
