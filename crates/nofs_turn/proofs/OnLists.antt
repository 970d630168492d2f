-- Words on lists that the turn's rule needs.
pub mod Words
pub mod Places
