pub mod Places
pub mod Loops
pub mod Sound
pub mod Between
pub mod Outcomes
pub mod Safe
pub mod Resumed
