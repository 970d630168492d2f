-- Which steps read content, which are on names, which examine an element, and which are those of the sweeps.
pub mod Contents
pub mod Names
pub mod Sees
