-- the rules
pub mod Requests
pub mod Verdicts
pub mod Ends
pub mod Causes
-- the code's types, as contracts see them
pub mod Views
