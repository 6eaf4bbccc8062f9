pub mod BuiltInLaws
pub mod Lists
pub mod Stacks
pub mod ValueLaws
