pub mod OnDisks
pub mod OnSteps
pub mod OnNames
pub mod OnLives
pub mod OnCrashes
pub mod OnNumbers
pub mod OnMounts
