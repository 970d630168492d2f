pub mod OnTeams
pub mod OnSession
pub mod OnVisit
