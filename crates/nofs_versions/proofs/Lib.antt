pub mod OnMemory
pub mod OnSearch
