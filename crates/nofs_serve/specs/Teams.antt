-- Users at work at one mount, and their passes once they are joined.
pub mod Joins
pub mod Users
pub mod Beside
