mod Fits
mod Shapes
mod Expressions
mod Values
mod Statements
mod Whole
