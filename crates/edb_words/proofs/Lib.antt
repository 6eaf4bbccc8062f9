pub mod Distinct
mod Rows
