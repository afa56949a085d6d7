pub mod Crowded
pub mod Long
pub mod Numbers
