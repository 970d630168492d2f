-- What Rename asks of its parts, and what it leaves.
pub mod Parts
pub mod Answers
