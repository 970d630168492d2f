-- What opening a file answers, and which blocks stand in its slots.
pub mod Blocks
pub mod Opened
