pub mod Pieces
pub mod Layout
pub mod Unlined
pub mod Views
pub mod Parts
