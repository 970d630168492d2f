-- Mounts with crashes between them are lives.
pub mod Images
pub mod After
pub mod OneMount
pub mod Lives
pub mod LastFlush
