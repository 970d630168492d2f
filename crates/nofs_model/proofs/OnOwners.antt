-- Owners of blocks: each is one agreed slot that holds.
pub mod Slots
pub mod Meanings
