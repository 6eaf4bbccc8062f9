pub mod Newest
pub mod StepLaws
