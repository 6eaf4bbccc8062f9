pub mod WordLaws
pub mod VerdictLaws
pub mod LineLaws
pub mod RefusalLaws
pub mod CauseLaws
