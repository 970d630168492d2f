-- Each image that a crash may leave reads as content that was given, as a hole, or as lost.
pub mod Trace
pub mod Steady
pub mod Writes
pub mod Moments
pub mod Below
