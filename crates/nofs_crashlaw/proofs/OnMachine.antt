-- The machine answers each step, and each answer fits it.
pub mod Claims
pub mod Total
pub mod Function
pub mod Examples
pub mod Fits
