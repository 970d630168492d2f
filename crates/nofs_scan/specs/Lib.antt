pub mod Steps
pub mod Sights
pub mod Laws
