-- Each step of a scan leaves the mount standing, with right verdicts.
pub mod Elements
pub mod Commits
pub mod Looks
