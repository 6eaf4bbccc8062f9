pub mod Counts
pub mod OrderSorted
pub mod OrderWalks
pub mod Places
pub mod Values
pub mod Walks
