pub mod Agreeing
pub mod Deciding
pub mod Handling
pub mod Purged
pub mod Arriving
pub mod Coming
pub mod Expiring
pub mod Finding
pub mod Killing
pub mod Plain
pub mod Refusing
pub mod Clearing
pub mod Emptying
pub mod Stated
pub mod Counted
pub mod Fated
pub mod Moving
pub mod Counting
pub mod Tracing
pub mod Passing
mod WorkedReasons
mod WorkedRecords
mod WorkedFrames
mod WorkedLaws
