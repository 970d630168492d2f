-- What a walk notes adds up to the report.
pub mod Findings
pub mod Trees
pub mod Seen
pub mod Inodes
