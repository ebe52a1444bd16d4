pub mod Words
pub mod Names
pub mod Each
pub mod ForCallers
