-- What the calls of a cached disk do, in terms of the disk below.
pub mod WritesBelow
pub mod Settled
pub mod Calls
pub mod Writes
pub mod Forgotten
pub mod Flushes
pub mod Leaves
pub mod Past
