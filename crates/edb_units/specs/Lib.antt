pub mod Forms
pub mod Keys
pub mod Orders
pub mod Ready
