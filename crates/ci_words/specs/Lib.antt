pub mod Command
pub mod Role
pub mod Number
pub mod Fault
pub mod Order
pub mod Laws
pub mod Bounds
