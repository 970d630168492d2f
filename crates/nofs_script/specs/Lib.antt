pub mod Text
pub mod Parts
pub mod Words
pub mod Grammar
pub mod Session
pub mod Pieces
pub mod Telling
