-- What the books of a mount say stays true as they are read, counted and changed.
pub mod Bits
pub mod Safe
pub mod Counts
pub mod Moved
pub mod Sums
pub mod Free
pub mod Claims
pub mod Worlds
pub mod ClaimedBlocks
pub mod Machine
pub mod Examined
pub mod Agreement
pub mod CurrentFiles
