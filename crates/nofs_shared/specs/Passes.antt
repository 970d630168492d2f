-- What a pass knows of its caller's entries, and what passes that were given back know together.
pub mod Entries
pub mod Rooms
pub mod Seats
