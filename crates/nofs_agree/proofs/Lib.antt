pub mod OnPair
pub mod OnChain
pub mod OnKnown
