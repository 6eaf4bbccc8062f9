pub mod Collected
pub mod Halving
pub mod Looking
pub mod Signatures
pub mod Lookups
