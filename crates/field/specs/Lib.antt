pub mod Coefficients
pub mod Dividends
pub mod Operands
pub mod Prime
pub mod Residue
