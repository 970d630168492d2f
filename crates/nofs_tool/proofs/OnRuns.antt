-- What a run ends with meets what its status promises.
pub mod Faults
pub mod Outcomes
pub mod Headline
pub mod Complete
pub mod Said
pub mod Parts
