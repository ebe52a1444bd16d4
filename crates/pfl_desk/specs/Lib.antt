pub mod Nodes
pub mod Codes
pub mod Edits
pub mod Drafts
pub mod Changes
pub mod Laws
pub mod inner
pub mod Weights
pub use Rattle.pfl_base.specs as base
pub use Rattle.pfl_edits.specs as edits
pub use Rattle.pfl_rules.specs as rules
pub use Rattle.pfl_track.specs as track
pub use Rattle.pfl_table.specs as table
pub use Rattle.pfl_wire.specs as wire
pub use Rattle.pfl_queue.specs as queue
pub use Rattle.pfl_defer.specs as defer
pub use Rattle.pfl_bulk.specs as bulk
pub use Rattle.pfl_language.specs as language
