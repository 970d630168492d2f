-- Get, Stat and Flush answer as the machine does.
pub mod Stats
pub mod Rows
pub mod FirstRows
pub mod Gets
pub mod Flushes
pub mod Memory
pub mod Standing
