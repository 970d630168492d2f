-- Instances of the laws of lives, paths and moves.
pub mod Runs
pub mod Paths
pub mod Begin
pub mod Contents
pub mod Refused
pub mod Moves
