pub mod Places
pub mod Rendering
pub mod Replies
