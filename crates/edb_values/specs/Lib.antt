pub mod Decimals
pub mod Found
