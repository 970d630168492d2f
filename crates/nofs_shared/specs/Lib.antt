pub mod Acts
pub mod Index
pub mod Mount
pub mod Passes
pub mod Laws
