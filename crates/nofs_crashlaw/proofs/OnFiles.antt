-- What Put and Resize write is proper, and gives the machine's files.
pub mod Growth
pub mod Given
pub mod Claims
pub mod OneFile
pub mod PutFile
pub mod Puts
pub mod PutHeld
pub mod CutSlots
pub mod Resizes
pub mod Writes
