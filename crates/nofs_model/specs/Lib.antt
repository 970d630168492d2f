pub mod Cells
pub mod Geometry
pub mod Slots
pub mod Files
pub mod Places
pub mod Owners
pub mod Sound
pub mod Definitions
