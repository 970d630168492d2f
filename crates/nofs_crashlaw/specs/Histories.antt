-- What holds between two steps of a history, and what each step keeps of it.
pub mod Laws
pub mod Stage
