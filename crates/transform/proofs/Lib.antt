pub mod FactorTables
pub mod Reversals
pub mod StagedSums
