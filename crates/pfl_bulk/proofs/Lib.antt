mod Turns
pub mod FirstNames
pub mod ForCallers
