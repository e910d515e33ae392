pub mod Counting
pub mod Drawn
pub mod Plain
pub mod Written
