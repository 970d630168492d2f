-- What the disk is after the writes of a step, whichever of them failed.
pub mod NoWrites
pub mod Sound
pub mod Numbered
pub mod Tables
pub mod ZeroPointers
pub mod TwoWrites
