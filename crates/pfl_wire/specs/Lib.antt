pub mod Actions
pub mod Faults
pub mod Frames
pub mod Spelling
pub mod Fields
pub mod Records
pub mod Reading
pub mod Answers
pub mod inner
pub use Rattle.pfl_base.specs as base
pub use Rattle.pfl_track.specs as track
