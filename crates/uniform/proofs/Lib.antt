pub mod ConstantRows
pub mod MendedColumns
