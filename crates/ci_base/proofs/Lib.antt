mod Lists
pub mod PrivateKinds
