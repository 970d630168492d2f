-- Each step of a walk is answered as the report says.
pub mod Slots
pub mod Steps
pub mod Directories
pub mod Answers
pub mod Asks
pub mod Rows
pub mod Refusals
pub mod Roots
pub mod Lines
