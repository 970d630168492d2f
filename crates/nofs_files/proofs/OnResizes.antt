-- Resize answers as the machine does, and leaves the mount standing.
pub mod Cells
pub mod Slots
pub mod Writes
pub mod Records
pub mod Maps
pub mod Blocks
pub mod Image
pub mod Counts
pub mod Pointers
pub mod Homes
pub mod Proper
pub mod Mount
pub mod Rows
pub mod Contract
pub mod Reads
