-- A search of a directory answers as the machine does.
pub mod Entries
pub mod PairTests
pub mod Progress
pub mod Holes
pub mod Loops
pub mod Directories
pub mod HeldSlots
