-- What a server takes, makes and writes.
pub mod Buffers
pub mod Serve
pub mod Turns
