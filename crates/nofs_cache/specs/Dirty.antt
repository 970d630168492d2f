-- The entries of dirty blocks, and the calls of a cached disk.
pub mod Entries
pub mod Blocks
pub mod Past
