pub mod Summable
