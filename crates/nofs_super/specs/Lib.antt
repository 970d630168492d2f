pub mod Geometry
pub mod Super
pub mod Spelling
pub mod Format
pub mod Raise
