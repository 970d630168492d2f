-- Each world of a run is sane: its directories have chains of names from the root.
pub mod Places
pub mod Acts
pub mod Gives
pub mod PairEntries
pub mod PairLinks
pub mod Links
pub mod Sane
pub mod Entries
pub mod Chains
pub mod Start
pub mod Directories
pub mod StepLinks
pub mod Rooted
pub mod Base
pub mod Keeps
pub mod Mounted
