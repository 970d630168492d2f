-- Instances of the laws of homes, numbers and verdicts.
pub mod Verdicts
pub mod Homes
pub mod Refused
pub mod Cells
