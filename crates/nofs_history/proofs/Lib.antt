pub mod EntryPut
pub mod Links
pub mod Names
pub mod Rows
pub mod Faultless
pub mod OnAccepted
pub mod Faults
