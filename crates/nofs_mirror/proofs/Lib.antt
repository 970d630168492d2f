pub mod OnSides
pub mod OnMirror
pub mod OnLaws
pub mod OnCopying
pub mod OnPartCopy
pub mod OnOpening
