pub mod TableLaws
pub mod Turns
