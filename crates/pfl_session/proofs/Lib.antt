pub mod Asked
pub mod Falling
pub mod Answered
pub mod Growth
pub mod KeptEntries
pub mod LongWords
pub mod Looks
pub mod Replays
pub mod Seatings
pub mod Shown
pub mod Sums
pub mod Telling
mod Worked
pub mod ForCallers
