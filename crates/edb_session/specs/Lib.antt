pub mod Headline
pub mod Runs
pub mod Reading
pub mod Texts
pub mod Ends
pub mod Exact
pub mod Views
