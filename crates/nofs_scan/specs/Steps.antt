-- What the steps of a scan answer, and what they leave.
pub mod Elements
pub mod Sees
pub mod Commits
pub mod Looks
