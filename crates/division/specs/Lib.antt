pub mod Dividends
pub mod GeneratorPolynomial
