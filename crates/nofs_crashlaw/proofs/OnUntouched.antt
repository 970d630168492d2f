-- Files, slots and names that a step does not touch stay as they were.
pub mod Matches
pub mod Frames
pub mod Inodes
pub mod Agreement
pub mod Laws
