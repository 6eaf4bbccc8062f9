pub mod Names
pub mod Searched
