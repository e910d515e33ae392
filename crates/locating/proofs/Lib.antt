pub mod Lending
pub mod Locating
pub mod Steps
