pub mod Ways
pub mod Kinds
pub mod Rules
pub mod Laws
pub mod Between
pub mod Safe
