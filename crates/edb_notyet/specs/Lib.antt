pub mod Calls
pub mod Beyond
