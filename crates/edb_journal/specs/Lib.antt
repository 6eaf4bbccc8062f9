pub mod Accepted
pub mod Lines
pub mod Replies
pub mod Texts
pub mod Wide
