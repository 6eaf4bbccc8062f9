pub mod Halving
pub mod Indexes
pub mod MarkLemmas
pub mod Reading
