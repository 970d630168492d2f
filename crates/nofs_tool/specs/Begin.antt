-- Why a device was not formatted and mounted, and the lines that say so.
pub mod Words
pub mod Mounts
pub mod Lines
