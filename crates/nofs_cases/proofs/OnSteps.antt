-- The premises of the laws of steps on files are met.
pub mod Files
pub mod Maps
pub mod Leaf
pub mod Cut
