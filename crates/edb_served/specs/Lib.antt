pub mod Answers
pub mod Calls
pub mod Small
pub mod Words
