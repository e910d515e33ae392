pub mod ButterflyLaws
pub mod StageSums
