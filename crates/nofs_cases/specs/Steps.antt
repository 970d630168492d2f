-- Instances of the laws of steps on files, of the maps and of the stamps.
pub mod Files
pub mod Maps
pub mod Leaf
pub mod Cut
