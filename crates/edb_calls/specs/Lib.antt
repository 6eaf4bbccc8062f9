pub mod Alone
pub mod Exported
pub mod Layered
pub mod Listed
pub mod Sites
