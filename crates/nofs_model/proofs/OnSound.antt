-- Which images are sound.
pub mod Writes
pub mod Formats
