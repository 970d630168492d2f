-- What a visit, a salvage and a serving of frames leave.
pub mod Visit
pub mod Reads
pub mod Salvage
pub mod Wire
