pub mod Verdicts
pub mod FaultLines
pub mod Bounds
pub mod TreeBounds
