-- Reading a text line by line gives its session.
pub mod Lines
pub mod Commands
