pub mod Known
pub mod Turns
pub mod Ranks
pub mod Plans
pub mod Worlds
pub mod Served
pub mod Outcomes
