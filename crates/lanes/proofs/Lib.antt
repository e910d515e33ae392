pub mod Running
pub mod Stepping
pub mod SymbolsRead
