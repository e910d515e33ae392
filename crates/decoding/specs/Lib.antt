pub mod Locating
pub mod NamedAlike
pub mod Remaining
pub mod Search
pub mod Searching
pub mod ShortRows
