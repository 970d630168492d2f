-- What a disk in memory knows after each of its calls.
pub mod Parts
pub mod Calls
