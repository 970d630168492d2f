-- The steps of a walk, and what the machine's answers to them say.
pub mod Answers
pub mod Steps
pub mod Asks
pub mod Refusals
