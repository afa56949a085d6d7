pub mod Contexts
pub mod Laws
pub mod Pads
pub mod Raw
pub mod Sizes
pub mod Writing
