-- What a run of the machine keeps, over the base that a mount leaves.
pub mod Pairs
pub mod Bases
pub mod Laws
