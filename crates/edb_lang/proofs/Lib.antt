pub mod Lists
pub mod OrderLaws
pub mod PairsLaws
pub mod OrderChain
pub mod Measures
pub mod CellLemmas
pub mod TermRows
