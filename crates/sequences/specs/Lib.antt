pub mod Backwards
pub mod Places
pub mod Tests
pub mod Zeros
