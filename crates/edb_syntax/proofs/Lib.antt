pub mod Lists
pub mod Levels
pub mod Lines
pub mod Rows
pub mod ModuleRows
