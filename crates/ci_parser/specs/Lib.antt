pub use Rattle.ci_expressions.specs.Gives
pub mod Reading
pub mod OfGrammar
pub mod Refusals
pub mod Constructs
