pub mod OneRead
pub mod Faults
pub mod Reads
pub mod Writes
pub mod Calls
pub mod Held
pub mod MemFiles
pub mod MemSink
