-- Lives: what goes on from a run of the machine over a crash to the next.
pub mod Era
pub mod Images
pub mod OnlySuper
pub mod Numbers
pub mod Values
pub mod Begin
pub mod Within
