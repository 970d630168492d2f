pub mod OnDriver
pub mod OnTask
pub mod OnProgress
