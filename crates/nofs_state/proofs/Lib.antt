pub mod OnBooks
pub mod OnCores
pub mod OnWrites
pub mod OnInodes
