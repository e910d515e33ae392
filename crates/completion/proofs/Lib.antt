pub mod ColumnMending
pub mod MendableFrames
pub mod MendedFrame
pub mod MendedRow
pub mod RowMending
pub mod SymbolsAdded
