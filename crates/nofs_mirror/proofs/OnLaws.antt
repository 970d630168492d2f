-- A mirror meets the promises of a disk.
pub mod Writes
pub mod Flushes
