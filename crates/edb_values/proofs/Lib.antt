pub mod TupleLemmas
pub mod TextLemmas
pub mod FoundLemmas
