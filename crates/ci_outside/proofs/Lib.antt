pub mod Putting
pub mod Named
