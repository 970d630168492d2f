-- What a server has done so far, turn by turn.
pub mod Buffers
pub mod Answers
pub mod Serve
pub mod Turns
