pub mod OneVerdict
pub mod TokenBounds
pub mod Bounds
pub mod TreeBounds
