-- What the disks of 16 blocks say, by their cells.
pub mod Numbers
pub mod Images
pub mod Slots
pub mod Matches
pub mod Below
pub mod Steps
pub mod Leaves
pub mod Entries
