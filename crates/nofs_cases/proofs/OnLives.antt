-- The premises of the laws of lives, paths and moves are met.
pub mod Runs
pub mod Paths
pub mod Begin
pub mod Contents
pub mod Refused
pub mod MoveFiles
pub mod Moves
