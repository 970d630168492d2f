-- A step whose writes are proper keeps what holds between two steps.
pub mod Marks
pub mod NewMark
pub mod Flushes
pub mod Rest
pub mod Resting
pub mod Entries
pub mod Later
pub mod Unflushed
pub mod Stages
pub mod FlushStage
pub mod FirstStage
