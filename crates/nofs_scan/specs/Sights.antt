-- What is read of an element of an image, and its verdict.
pub mod Verdicts
pub mod Reads
