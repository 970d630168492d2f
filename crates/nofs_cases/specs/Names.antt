-- Instances of the laws of steps on names.
pub mod Disks
pub mod Steps
pub mod Leaf
pub mod Places
