pub mod Agreement
pub mod Marking
pub mod Reading
pub mod Running
pub mod Settling
pub mod Starting
