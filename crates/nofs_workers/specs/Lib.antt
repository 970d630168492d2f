pub mod Sweep
pub mod User
pub mod Flusher
