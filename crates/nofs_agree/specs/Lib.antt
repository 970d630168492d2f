pub mod Reads
pub mod Path
pub mod Known
pub mod Chain
