-- What each step on names writes is proper, and gives the machine's files.
pub mod Entries
pub mod EntryCells
pub mod Files
pub mod Steps
pub mod InPlace
pub mod Renames
pub mod Links
pub mod Drops
pub mod OldLaws
pub mod NewEntries
pub mod Gives
pub mod HoleCells
pub mod HoleWrites
pub mod Holes
pub mod Premises
pub mod NewLaws
pub mod Places
