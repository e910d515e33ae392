pub mod Parts
pub mod Tabulate
pub mod Total
