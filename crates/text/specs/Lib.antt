pub mod Answered
pub mod Line
pub mod Numerals
pub mod Text
pub mod Written
