pub mod Own
pub mod Linked
pub mod Steps
pub mod Laws
