pub mod OnSlots
pub mod OnFiles
pub mod OnOwners
pub mod OnSound
pub mod OnGeometry
