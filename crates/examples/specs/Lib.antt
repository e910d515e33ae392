pub mod Enumeration
pub mod Examples
pub mod Literals
