pub mod Broken
pub mod EndedSeats
pub mod ServedLines
pub mod Passed
pub mod Entries
pub mod Told
pub mod ServedSeats
pub mod ForCallers
