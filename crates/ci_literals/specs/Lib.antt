pub mod Digits
pub mod Edges
pub mod Ints
pub mod Items
pub mod Laws
pub mod Texts
