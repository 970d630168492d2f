-- Link answers as the machine does, and leaves the mount standing.
pub mod Claims
pub mod Writes
pub mod Comes
pub mod Slots
pub mod Ends
pub mod Reads
pub mod Rows
pub mod Refusals
pub mod Directories
