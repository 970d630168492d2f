-- What a history accepted for a slot: the bounds of its entries, what each gives, and the values that go to the slot.
pub mod Files
pub mod Fit
pub mod Given
pub mod Taken
pub mod BaseFiles
