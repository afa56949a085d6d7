mod Files
mod Finding
mod Firsts
mod Held
pub mod Kept
mod Lookups
mod Named
mod Owns
mod Pushes
mod Tables
