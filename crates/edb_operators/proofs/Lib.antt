pub mod Scaling
pub mod Removal
