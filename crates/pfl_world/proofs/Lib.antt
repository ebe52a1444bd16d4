pub mod Lab
mod Packets
mod Frames
mod Bulk
mod Refusals
mod Timeouts
pub mod NewWorlds
pub mod Leads
pub mod Stepping
pub mod Tickets
pub mod Sending
pub mod Delivered
pub mod Restarted
pub mod Redoing
pub mod Ranges
pub mod LimitFaults
pub mod Little
pub mod Recording
pub mod OnTapes
pub mod ForCallers
