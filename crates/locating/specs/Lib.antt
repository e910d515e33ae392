pub mod FromSums
pub mod RegisterOf
