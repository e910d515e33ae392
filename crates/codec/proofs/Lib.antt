pub mod WeighedSums
