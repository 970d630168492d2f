-- The memory for entries, and what of it is kept for the sweeps.
pub mod Contents
pub mod Room
pub mod OtherRoom
