-- What a mount stands on between two steps, and what each step leaves.
pub mod Invariant
pub mod Early
pub mod FirstRows
pub mod Steps
pub mod Beginning
pub mod WriteOuts
