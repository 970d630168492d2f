pub mod OnReads
pub mod OnPuts
pub mod OnResizes
