pub mod Sides
pub mod Mirror
pub mod Laws
pub mod Copying
