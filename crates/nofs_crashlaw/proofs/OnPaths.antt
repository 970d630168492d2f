-- A name that stands since the last flush finds its file in each image.
pub mod Finds
pub mod Since
pub mod Looks
pub mod Links
pub mod Moves
pub mod Alone
