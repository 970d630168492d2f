mod Examples
pub mod OnRuns
