pub mod Keeping
pub mod Taking
pub mod Whole
pub mod Heads
pub mod Turns
pub mod Advancing
pub mod Scans
pub mod ForCallers
