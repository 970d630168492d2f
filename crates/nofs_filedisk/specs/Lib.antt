pub mod Bytes
pub mod Past
pub mod Told
pub mod Files
pub mod Windows
pub mod Present
pub mod Untold
pub mod Memory
