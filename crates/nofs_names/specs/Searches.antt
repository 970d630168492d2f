-- What a search of a directory answers, over any disk.
pub mod Inodes
pub mod Slots
pub mod Refusals
pub mod Directories
