pub mod Weights
pub mod Ranges
pub mod Books
