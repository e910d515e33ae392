pub mod Lined
pub mod Window
