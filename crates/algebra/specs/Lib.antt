pub mod Locator
pub mod Polynomial
pub mod Ring
pub mod Sum
