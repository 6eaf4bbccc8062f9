pub mod Bodies
pub mod Tree
pub mod Places
pub mod Calls
pub mod Glances
pub mod Levels
pub mod Stands
pub mod BodyInfo
