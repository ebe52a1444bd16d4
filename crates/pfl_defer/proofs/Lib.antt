mod Changing
mod Ripening
pub mod Leading
pub mod Kept
pub mod ForCallers
