-- Make answers as the machine does, and leaves the mount standing.
pub mod Premises
pub mod Writes
pub mod Claims
pub mod Places
pub mod Contract
pub mod Entries
pub mod Rows
pub mod Reads
pub mod InHole
pub mod Ends
