pub mod FirstWrong
pub mod Faults
