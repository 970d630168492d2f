-- The premises of the laws of a crash are met by a formatted disk and a Put.
pub mod Put
pub mod Writes
pub mod Histories
pub mod Stages
pub mod Machine
