pub mod Fetching
pub mod Made
pub mod Causes
pub mod Deciding
pub mod Plain
pub mod Doing
