pub mod Task
pub mod Progress
pub mod Driver
