pub mod BuiltIns
pub mod Entries
pub mod Keys
pub mod Marking
