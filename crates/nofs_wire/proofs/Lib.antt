pub mod OnFrames
pub mod OnServer
