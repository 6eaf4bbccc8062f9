pub mod Grammar
pub mod Conditions
pub mod SmallModule
pub mod Descent
pub mod Checks
pub mod Bounds
