-- What the maps of a mount say of the machine's world.
pub mod Maps
pub mod Verdicts
pub mod Counts
pub mod Agreement
