-- What each step on names does to the homes of the blocks.
pub mod Names
pub mod Entries
