-- After each step on names the homes of the machine are the owners of the image.
pub mod Steps
pub mod Slots
pub mod Holes
pub mod OldEntries
pub mod NewEntries
