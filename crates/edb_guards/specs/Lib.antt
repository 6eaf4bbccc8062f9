pub mod Choices
pub mod Views
