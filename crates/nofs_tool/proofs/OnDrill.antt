-- What a drill leaves, and the numbers of its line.
pub mod Reads
pub mod Follows
pub mod Tally
pub mod Ends
