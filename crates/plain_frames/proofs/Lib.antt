pub mod CheckSums
pub mod Choosing
pub mod Errors
pub mod Mixing
pub mod Rows
pub mod Striking
