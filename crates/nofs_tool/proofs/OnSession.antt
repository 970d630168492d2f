-- What a session leaves follows its scripts.
pub mod Serve
pub mod Scripts
pub mod Known
pub mod Whole
pub mod Counts
