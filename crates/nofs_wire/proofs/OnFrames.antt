-- A frame is read as the one step that it spells.
pub mod Fields
pub mod Spellings
pub mod Requests
pub mod Lengths
pub mod Split
