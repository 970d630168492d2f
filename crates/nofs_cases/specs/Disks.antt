-- Disks of 16 blocks, and the machine's files on them.
pub mod Images
pub mod Worlds
