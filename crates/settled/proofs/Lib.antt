pub mod Cells
pub mod Testing
