-- Names and agreement: the definitions and the words that compute them say the same.
pub mod Chains
pub mod Entries
pub mod Meanings
pub mod Parents
