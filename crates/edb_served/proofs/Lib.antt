pub mod Loops
pub mod WordLaws
pub mod CallLaws
pub mod ReplyLaws
pub mod Written
