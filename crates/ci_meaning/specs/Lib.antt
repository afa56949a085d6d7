pub mod Configuration
pub mod Held
pub mod Laws
pub mod Meaning
pub mod Moves
pub mod Operators
pub mod Widths
pub mod Within
