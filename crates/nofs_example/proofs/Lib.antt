mod OnCut
mod OnFormat
