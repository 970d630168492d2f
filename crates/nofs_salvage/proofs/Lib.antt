pub mod OnReport
pub mod OnWalk
