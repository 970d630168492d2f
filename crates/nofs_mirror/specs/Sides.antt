-- What a side does in a call, and the calls that a mirror has had.
pub mod Past
pub mod Calls
