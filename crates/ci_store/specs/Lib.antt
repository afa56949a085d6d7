pub mod Done
pub mod Stored
