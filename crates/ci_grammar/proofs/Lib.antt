pub mod Completion
pub mod Fitting
pub mod Spelled
pub mod Stopped
pub mod Deeper
pub mod Prefixes
pub mod Levels
pub mod Explained
mod Examples
