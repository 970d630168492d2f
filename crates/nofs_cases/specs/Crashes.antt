-- Instances of the laws of a crash and of the machine.
pub mod Put
pub mod Machine
