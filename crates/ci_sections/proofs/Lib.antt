pub mod Handing
pub mod Held
