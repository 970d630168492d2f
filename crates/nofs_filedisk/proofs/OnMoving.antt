-- All bytes of a part are read, or written, in as many calls as the file takes.
pub mod Bytes
pub mod Reads
pub mod Writes
pub mod Units
