pub mod Alone
mod Examples
pub mod Follow
pub mod Lists
pub mod Machines
pub mod Served
pub mod Serving
pub mod Sound
pub mod Tasks
pub mod Working
