pub mod Upgrades
pub mod Between
