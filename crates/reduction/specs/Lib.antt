pub mod Reductions
pub mod Taking
