pub mod Disks
pub mod Steps
pub mod Names
pub mod Lives
pub mod Crashes
pub mod Numbers
pub mod Mounts
