pub mod Checks
pub mod Insertion
pub mod Part
pub mod Reversing
pub mod Sorting
pub mod Standing
