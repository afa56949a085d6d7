-- Examples: sources with all their faults, and with their bound projects. Each stands as its tree, with its source above.
pub mod Trees
mod Names
mod Scopes
mod Sound
mod Kinds
mod Arguments
mod Others
mod Order
mod Binding
mod Limits
mod Rooms
mod Nesting
mod Nodes
mod Contents
