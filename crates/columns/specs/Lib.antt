pub mod Columns
pub mod Listed
pub mod Rising
