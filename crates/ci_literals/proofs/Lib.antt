pub mod Cuts
pub mod Escaping
pub mod Naturals
pub mod Spelled
