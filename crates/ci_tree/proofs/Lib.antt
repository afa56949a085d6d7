mod Examples
pub mod Indices
pub mod LayoutSteps
pub mod Past
pub mod Written
