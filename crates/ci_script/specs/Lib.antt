pub mod Events
pub mod Forms
pub mod Lines
pub mod Parts
pub mod Scripts
