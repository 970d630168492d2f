-- What these mounts are, and what a crash leaves of the first.
pub mod Open
pub mod Replies
pub mod Two
