pub mod Constant
pub mod Encodable
pub mod Mendable
