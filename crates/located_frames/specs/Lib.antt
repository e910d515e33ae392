pub mod Seeable
