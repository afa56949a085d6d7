pub mod Options
pub mod Offsets
pub mod Zipped
pub mod Sourcing
pub mod OneFault
pub mod OneMeaning
pub mod SomeMeaning
