mod Examples
pub mod Least
pub mod Repeats
pub mod Searching
pub mod Spelling
pub mod Widths
pub mod Wrapping
