-- What format and mount say is the cause that a run tells.
pub mod Words
pub mod Formats
pub mod Causes
