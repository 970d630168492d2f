pub mod OnCached
pub mod OnDirty
pub mod OnGathered
