-- What all steps on names share: their refusals, their claims, and the mount that they leave.
pub mod Refusals
pub mod Parts
pub mod OpenMount
pub mod NoClaims
pub mod OneCell
pub mod CellAndRecord
pub mod Reads
pub mod Claims
