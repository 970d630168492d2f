pub mod Books
pub mod Inodes
pub mod Cores
pub mod Writes
