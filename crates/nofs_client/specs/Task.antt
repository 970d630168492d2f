-- Where a command can stand, its next step, and what each reply makes of it.
pub mod Commands
pub mod Places
pub mod State
pub mod Steps
pub mod Answers
