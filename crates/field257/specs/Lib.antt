pub mod Inverses
pub mod LocatorPolynomial
pub mod Montgomery
pub mod Powers
pub mod Table
