pub mod Equations
pub mod Prime
