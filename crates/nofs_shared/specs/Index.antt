-- The index of names that were found.
pub mod Names
pub mod Lines
pub mod Truths
