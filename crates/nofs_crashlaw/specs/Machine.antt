-- Laws of the machine's step, and worked examples.
pub mod Laws
pub mod Worlds
pub mod Examples
