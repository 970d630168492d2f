pub mod OnActs
pub mod OnIndex
pub mod OnLaws
pub mod OnMount
pub mod OnPasses
