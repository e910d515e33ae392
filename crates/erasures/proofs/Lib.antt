pub mod FilledFrame
pub mod RowsDeclarable
pub mod RowsFilled
