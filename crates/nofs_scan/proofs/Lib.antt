pub mod OnSteps
pub mod OnSights
pub mod OnLaws
