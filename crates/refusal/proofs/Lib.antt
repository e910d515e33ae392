pub mod Firsts
pub mod Orders
pub mod Outcomes
pub mod Ranges
