pub mod Arms
pub mod Finding
