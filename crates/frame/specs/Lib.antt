pub mod Completion
pub mod DeclaredCells
pub mod Demands
pub mod Encode
pub mod Exponents
pub mod Frame
pub mod Shape
