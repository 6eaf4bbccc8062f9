pub mod Plans
pub mod Sights
pub mod Steps
pub mod Waiting
