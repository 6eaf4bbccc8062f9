pub mod RowsPrinting
pub mod PrintsLaw
