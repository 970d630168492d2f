-- Each user has done what its kind promises, and the passes are joined.
pub mod Joins
pub mod Sweeps
pub mod Beside
pub mod Gathered
pub mod Users
