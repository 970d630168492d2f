-- The verdict of what was read of an element is that of the scan.
pub mod Reads
pub mod Entries
pub mod Verdicts
