pub mod Faults
pub mod Sources
pub mod Compiling
pub mod Telling
pub mod Laws
