pub mod Verdicts
pub mod Stale
pub mod Accepted
pub mod OneRun
