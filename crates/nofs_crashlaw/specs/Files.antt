-- What the steps on files leave on the disk.
pub mod Growth
pub mod Puts
pub mod Resizes
pub mod Writes
