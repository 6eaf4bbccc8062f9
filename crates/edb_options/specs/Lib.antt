-- the rules
pub mod Words
pub mod Numbers
pub mod Reading
pub mod Options
-- the code's types, as contracts see them
pub mod Seeing
-- devices of proof
pub mod Given
pub mod Command
