-- What each step on names leaves on the disk.
pub mod OldEntries
pub mod NewEntries
pub mod Places
