-- The disk after a new entry was written, in a slot that holds or in a hole.
pub mod Least
pub mod Places
pub mod Counts
pub mod InPlace
pub mod HoleCells
pub mod TableWrites
pub mod InHole
pub mod UnderLeaf
pub mod WithLeaf
