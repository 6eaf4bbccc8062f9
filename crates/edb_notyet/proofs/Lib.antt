pub mod Arities
pub mod Operands
pub mod RowForms
mod Rows
mod RowsCalls
