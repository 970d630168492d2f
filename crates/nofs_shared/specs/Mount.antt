-- What a mount stands on, and what each of its calls leaves.
pub mod Forms
pub mod Images
pub mod Invariant
pub mod Earlier
pub mod Entries
pub mod Batches
pub mod End
pub mod Commits
pub mod Flushes
pub mod Books
pub mod Causes
pub mod Calls
pub mod Begin
