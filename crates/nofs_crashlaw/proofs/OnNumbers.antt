-- The numbers in what each step writes are old ones, or claimed ones.
pub mod Cells
pub mod Tables
pub mod Files
pub mod OldEntries
pub mod NewEntries
