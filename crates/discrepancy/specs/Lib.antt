pub mod Discrepancies
pub mod Modulus
