pub mod Searches
pub mod Looks
pub mod Entries
pub mod Lists
pub mod Renames
pub mod Drops
pub mod Links
pub mod Makes
