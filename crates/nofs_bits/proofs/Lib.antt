pub mod Searches
pub mod Truths
pub mod Words
mod Firsts
