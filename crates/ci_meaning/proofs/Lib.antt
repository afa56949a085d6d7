mod Examples
pub mod LeftOut
pub mod ProjectWithin
mod Rooms
pub mod Stacks
pub mod Taken
pub mod Tops
mod Weight
pub mod Widths
pub mod Within
