pub mod Sums
pub mod Pages
pub mod Views
pub mod Stores
pub mod Singles
pub mod Twins
pub mod Laws
pub mod Crashes
