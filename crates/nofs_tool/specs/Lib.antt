pub mod Begin
pub mod Session
pub mod Runs
pub mod Drill
pub mod Visits
pub mod Upgrade
