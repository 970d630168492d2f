-- The premises of the laws of homes, numbers and verdicts are met.
pub mod Verdicts
pub mod Homes
pub mod Refused
pub mod Cells
