-- The list of accepted values, as it is computed, is that of the definition.
pub mod Padded
pub mod LinkLists
pub mod Resized
pub mod Keeping
pub mod Alike
pub mod Aimed
pub mod BaseFiles
pub mod Changed
pub mod Taking
pub mod Fit
pub mod Gathered
pub mod Bases
