-- Why each number in a cell that a step writes is one that it may write.
pub mod Cells
pub mod Files
pub mod Names
