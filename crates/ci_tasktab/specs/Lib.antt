pub mod Births
pub mod Slots
