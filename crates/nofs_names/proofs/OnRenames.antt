-- Rename answers as the machine does, and leaves the mount standing.
pub mod Writes
pub mod Contract
pub mod Rows
