-- What a session leaves in the history, and what is counted after it.
pub mod Entries
pub mod Whole
pub mod Serve
pub mod Counts
