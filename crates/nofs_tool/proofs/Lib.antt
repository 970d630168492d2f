pub mod OnBegin
pub mod OnSession
pub mod OnRuns
pub mod OnDrill
pub mod OnVisits
