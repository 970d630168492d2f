-- Each way in which a step can end leaves the mount standing.
pub mod Runs
pub mod NoWrites
pub mod Replies
pub mod Unchanged
pub mod Readings
pub mod SafeSteps
pub mod Faults
pub mod Flushes
pub mod Refusals
pub mod Rows
pub mod Sees
pub mod SeenInodes
pub mod Beginning
pub mod Done
pub mod FirstRows
pub mod WriteOuts
