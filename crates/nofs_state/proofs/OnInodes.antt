-- Opening a file and gathering its blocks answer as the machine does.
pub mod Opened
pub mod Owners
pub mod Blocks
