pub mod ForCallers
pub mod LimitStops
pub mod Passing
pub mod Numbers
pub mod Modes
pub mod Runs
pub mod Devices
