pub mod Spelled
pub mod Operators
pub mod Orders
pub mod Going
pub mod Courses
pub mod Running
pub mod Moved
pub mod Laws
