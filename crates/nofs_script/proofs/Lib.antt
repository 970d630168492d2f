mod OnDigits
mod OnWords
mod OnGrammar
mod OnSession
pub mod OnText
pub mod OnTelling
