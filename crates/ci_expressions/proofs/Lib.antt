pub mod Exact
pub mod Longer
pub mod ExactExpressions
pub mod Again
pub mod Loops
pub mod Levels
