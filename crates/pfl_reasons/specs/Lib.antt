pub mod Against
pub mod Frames
pub mod Senders
pub mod Deciding
pub mod Packets
pub mod Records
pub mod Purges
pub mod Explaining
pub mod Laws
pub use Rattle.pfl_base.specs as base
pub use Rattle.pfl_edits.specs as edits
pub use Rattle.pfl_rules.specs as rules
pub use Rattle.pfl_track.specs as track
pub use Rattle.pfl_table.specs as table
pub use Rattle.pfl_wire.specs as wire
pub use Rattle.pfl_queue.specs as queue
pub use Rattle.pfl_merge.specs as merge
pub use Rattle.pfl_language.specs as language
pub use Rattle.pfl_events.specs as events
pub use Rattle.pfl_world.specs as world
