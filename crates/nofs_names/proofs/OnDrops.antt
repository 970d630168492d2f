-- Drop answers as the machine does, and leaves the mount standing.
pub mod Freed
pub mod Records
pub mod Maps
pub mod Writes
pub mod Endings
pub mod Facts
pub mod NameGoes
pub mod InodeGoes
pub mod Blocks
pub mod OtherNames
pub mod Emptiness
pub mod Refusals
pub mod Reads
pub mod Rows
pub mod Contract
pub mod Premises
