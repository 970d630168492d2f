-- What the calls of a mirror do, in terms of its sides.
pub mod Past
pub mod Cells
pub mod Writes
pub mod Leaves
pub mod Flushes
pub mod Calls
pub mod Reads
