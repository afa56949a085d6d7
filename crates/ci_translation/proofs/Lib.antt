pub mod Back
pub mod Behind
pub mod Calls
mod Examples
pub mod Facts
pub mod Follow
pub mod Going
pub mod Inside
pub mod Lists
pub mod Lies
pub mod Machines
pub mod Matches
pub mod Numbers
pub mod Sizes
pub mod Theorem
pub mod Values
