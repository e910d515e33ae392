pub mod Accepted
pub mod Demands
pub mod Reasons
pub mod Refusing
pub mod Synthesis
pub mod Zeros
