-- What stands in a slot: the definitions and the words that compute it say the same.
pub mod Find
pub mod Paths
pub mod Meanings
