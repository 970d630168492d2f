pub mod Teams
pub mod Session
pub mod Visit
