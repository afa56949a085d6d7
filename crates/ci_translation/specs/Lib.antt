pub mod Alike
pub mod Drafts
pub mod Instructions
pub mod Laws
pub mod Simulates
pub mod Stands
pub mod Translation
