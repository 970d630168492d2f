-- Each step of a turn keeps its rule.
pub mod Looks
pub mod Steps
pub mod Seats
