-- What a step leaves as it was.
pub mod Frames
pub mod Laws
