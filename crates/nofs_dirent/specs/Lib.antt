pub mod Names
pub mod NameLaws
pub mod Entries
pub mod EntryLaws
pub mod EntryCells
pub mod OneEntry
