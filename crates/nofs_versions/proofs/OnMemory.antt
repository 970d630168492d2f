-- What a disk in memory holds, and may leave, after each call.
pub mod Calls
pub mod Cells
pub mod Images
pub mod Sizes
