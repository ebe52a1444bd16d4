pub mod Laws
pub mod Rest
pub mod Reverting
pub mod inner
pub use Rattle.pfl_base.specs as base
pub use Rattle.pfl_edits.specs as edits
pub use Rattle.pfl_world.specs.rules as rules
pub use Rattle.pfl_world.specs.track as track
pub use Rattle.pfl_world.specs.table as table
pub use Rattle.pfl_world.specs.wire as wire
pub use Rattle.pfl_world.specs.merge as merge
pub use Rattle.pfl_world.specs.defer as defer
pub use Rattle.pfl_language.specs as language
pub use Rattle.pfl_world.specs.desk as desk
pub use Rattle.pfl_world.specs.receive as receive
pub use Rattle.pfl_world.specs.node as node
pub use Rattle.pfl_world.specs.link as link
pub use Rattle.pfl_world.specs as world
