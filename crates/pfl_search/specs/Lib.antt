pub mod Choices
pub mod Fates
pub mod Differing
pub mod Goals
pub mod Orders
pub mod Ordered
pub mod Visits
pub mod Runs
pub mod Laws
pub mod inner
pub use Rattle.pfl_base.specs as base
pub use Rattle.pfl_edits.specs as edits
pub use Rattle.pfl_world.specs.queue as queue
pub use Rattle.pfl_language.specs as language
pub use Rattle.pfl_world.specs as world
