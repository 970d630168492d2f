pub mod Dirty
pub mod Cached
pub mod Laws
pub mod Gathered
