pub mod Formats
pub mod Putting
