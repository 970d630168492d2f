-- Where a new entry goes, what it claims, and what it writes.
pub mod Places
pub mod Tables
pub mod Writes
