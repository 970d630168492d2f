-- The history has of each caller what its pass made.
pub mod Entries
pub mod Sessions
pub mod Joined
pub mod Batches
