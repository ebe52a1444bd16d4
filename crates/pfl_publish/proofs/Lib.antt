pub mod Lists
pub mod Keeps
pub mod KeepsCount
pub mod Tries
pub mod ForCallers
