-- The premises of the laws of steps on names are met.
pub mod Roots
pub mod RootSteps
pub mod Steps
pub mod Leaf
pub mod Places
