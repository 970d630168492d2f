-- The invariant of a mount holds of each of these.
pub mod Formats
pub mod Maps
pub mod Open
pub mod Crashes
pub mod Sound
