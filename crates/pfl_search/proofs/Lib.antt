pub mod Lists
pub mod Taking
pub mod Meeting
pub mod Compared
pub mod Turning
pub mod Visiting
pub mod Searching
pub mod Flying
pub mod Commuting
pub mod Counting
pub mod Swapping
pub mod Ordering
pub mod Leading
pub mod Deepening
mod Worked
pub mod ForCallers
