pub mod FirstJobs
pub mod InOrder
pub mod Runs
pub mod Written
