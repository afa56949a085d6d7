pub mod Fitting
pub mod Living
pub mod Placing
pub mod Reading
pub mod Spawning
