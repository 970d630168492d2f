-- What a visit leaves, by what the visitor does.
pub mod Visit
pub mod Salvage
pub mod Wire
