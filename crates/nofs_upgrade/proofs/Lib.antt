pub mod OnSecond
pub mod OnUpgrading
pub mod OnLaws
