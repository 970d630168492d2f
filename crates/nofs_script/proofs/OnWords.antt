-- The words of a line, and the numbers among them.
pub mod Digits
pub mod Pieces
pub mod Cuts
pub mod Spaces
