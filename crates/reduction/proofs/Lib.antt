pub mod Blocks
pub mod LessProducts
