pub mod BindingRows
pub mod Placing
