pub mod Readers
pub mod Texts
pub mod Shows
pub mod Logs
pub mod Entries
pub mod Reasons
pub mod Frames
pub mod Searches
pub mod Replies
pub mod Answers
pub mod Checks
pub mod Setups
pub mod inner
pub use Rattle.pfl_base.specs as base
pub use Rattle.pfl_edits.specs as edits
pub use Rattle.pfl_rules.specs as rules
pub use Rattle.pfl_track.specs as track
pub use Rattle.pfl_table.specs as table
pub use Rattle.pfl_wire.specs as wire
pub use Rattle.pfl_queue.specs as queue
pub use Rattle.pfl_defer.specs as defer
pub use Rattle.pfl_bulk.specs as bulk
pub use Rattle.pfl_language.specs as language
pub use Rattle.pfl_timeline.specs.desk as desk
pub use Rattle.pfl_link.specs as link
pub use Rattle.pfl_timeline.specs.world as world
pub use Rattle.pfl_timeline.specs.reasons as reasons
pub use Rattle.pfl_timeline.specs as timeline
pub use Rattle.pfl_lines.specs as lines
pub use Rattle.pfl_reader.specs as reader
