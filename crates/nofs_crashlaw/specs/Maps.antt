-- What a step leaves of the maps and of the stamps.
pub mod Homes
pub mod Fresh
pub mod Moves
pub mod Pieces
