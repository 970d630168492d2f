-- The rule of the turn, and what a seat knows of it.
pub mod Views
pub mod Steps
