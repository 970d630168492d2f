-- What Drop answers, when it refuses, and what it takes away.
pub mod Parts
pub mod Removal
pub mod Blocks
pub mod OtherNames
pub mod Emptiness
pub mod Answers
