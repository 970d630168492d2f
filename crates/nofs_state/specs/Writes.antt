-- What the writes of a step do to the disk, and what they ask.
pub mod Cells
pub mod Premises
pub mod Pointers
