-- The theory of the shortest register that generates several sequences, over an abstract field.
pub mod Generates
pub mod Growth
pub mod Invariant
pub mod LeadingRow
pub mod Places
pub mod Preserved
pub mod Shortest
pub mod Step
pub mod Update
