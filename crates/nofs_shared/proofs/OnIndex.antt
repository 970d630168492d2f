-- The index of a mount stays true: what it tells of a name is what a search finds.
pub mod Names
pub mod NewNames
pub mod WasLinks
pub mod Learned
pub mod NewEntries
pub mod Makes
pub mod Steps
pub mod Bases
pub mod Lines
pub mod Mounts
pub mod Hits
