pub mod Answered
pub mod EntryLaws
pub mod JournalLaws
pub mod Parting
pub mod Told
