-- the rules
pub mod Names
pub mod Numbers
pub mod InOrder
pub mod Lines
pub mod Ends
-- the code's types, as contracts see them
pub mod Asking
