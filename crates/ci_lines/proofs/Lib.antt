pub mod Searching
pub mod Taking
pub mod Turning
