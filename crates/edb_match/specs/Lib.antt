pub mod Newest
pub mod Views
pub mod Points
