pub mod Follow
pub mod Laws
pub mod Lists
pub mod Serial
pub mod Tasks
pub mod Trails
pub mod Work
pub mod World
