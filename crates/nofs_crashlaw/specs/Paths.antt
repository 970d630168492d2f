-- Which name finds which file after a crash, and the durable move.
pub mod Names
pub mod Moves
