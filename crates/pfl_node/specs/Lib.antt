pub mod Meanings
pub mod Starting
pub mod Packets
pub mod Flushing
pub mod Ticking
pub mod Purging
pub mod Releasing
pub mod Killing
pub mod Clearing
pub mod Turning
pub mod Retrying
pub mod Delivering
pub mod Stepping
pub mod Calls
pub mod Events
pub mod Laws
pub mod inner
pub mod Weights
pub use Rattle.pfl_base.specs as base
pub use Rattle.pfl_edits.specs as edits
pub use Rattle.pfl_rules.specs as rules
pub use Rattle.pfl_track.specs as track
pub use Rattle.pfl_receive.specs.table as table
pub use Rattle.pfl_wire.specs as wire
pub use Rattle.pfl_receive.specs.queue as queue
pub use Rattle.pfl_receive.specs.merge as merge
pub use Rattle.pfl_receive.specs.defer as defer
pub use Rattle.pfl_bulk.specs as bulk
pub use Rattle.pfl_language.specs as language
pub use Rattle.pfl_receive.specs.desk as desk
pub use Rattle.pfl_receive.specs as receive
