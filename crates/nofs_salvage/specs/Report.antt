-- The report of a world, and what a walk has in hand.
pub mod Inodes
pub mod Filter
pub mod Losses
pub mod InHand
pub mod Trees
pub mod Lines
pub mod Findings
