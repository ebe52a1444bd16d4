pub mod Worlds
pub mod Faults
pub mod Codes
pub mod Restarts
pub mod WorldEdits
pub mod Values
pub mod Meanings
pub mod AtNodes
pub mod Flushing
pub mod Tickets
pub mod Delivering
pub mod Restarting
pub mod Events
pub mod Runs
pub mod Weights
pub mod Laws
pub mod inner
pub use Rattle.pfl_base.specs as base
pub use Rattle.pfl_edits.specs as edits
pub use Rattle.pfl_rules.specs as rules
pub use Rattle.pfl_node.specs.track as track
pub use Rattle.pfl_node.specs.table as table
pub use Rattle.pfl_wire.specs as wire
pub use Rattle.pfl_node.specs.queue as queue
pub use Rattle.pfl_node.specs.merge as merge
pub use Rattle.pfl_node.specs.defer as defer
pub use Rattle.pfl_node.specs.bulk as bulk
pub use Rattle.pfl_language.specs as language
pub use Rattle.pfl_node.specs.desk as desk
pub use Rattle.pfl_node.specs.receive as receive
pub use Rattle.pfl_node.specs as node
pub use Rattle.pfl_link.specs as link
