pub mod Ends
pub mod History
pub mod Report
