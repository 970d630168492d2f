-- What a disk in a file knows after each of its calls.
pub mod Present
pub mod Calls
pub mod Start
