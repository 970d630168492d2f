pub mod OnSweep
pub mod OnTasks
pub mod OnFlusher
pub mod OnBatches
pub mod OnUser
