-- The homes of the machine are the owners of the image, and each number that is written is an old one or a claimed
-- one.
pub mod Homes
pub mod Good
pub mod Next
pub mod Fresh
pub mod Moves
pub mod Pieces
pub mod ClaimParts
pub mod Choices
