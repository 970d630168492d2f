-- The bytes of the formats, read as an image.
pub mod Super
pub mod Vectors
