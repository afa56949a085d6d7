pub mod Among
pub mod Made
pub mod Placed
pub mod Steps
pub mod Told
