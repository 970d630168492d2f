pub mod OnScript
pub mod OnFile
pub mod OnReplays
pub mod OnTally
