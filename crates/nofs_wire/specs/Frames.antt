-- The bytes of frames (docs/FORMAT.md, "Frames").
pub mod Requests
pub mod Fields
pub mod Spellings
pub mod Replies
pub mod Split
