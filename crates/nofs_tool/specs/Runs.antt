-- What a run of the program leaves, by its status.
pub mod Says
pub mod Tool
pub mod Headline
pub mod Complete
pub mod Said
pub mod Statuses
pub mod Call
pub mod Texts
