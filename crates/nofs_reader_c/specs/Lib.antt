pub mod Outs
pub mod Codes
pub mod Gives
