pub mod Faults
pub mod Totals
pub mod Journals
pub mod Listings
pub mod Passes
pub mod Made
pub mod Ledgers
pub mod Labs
pub mod Laws
pub mod inner
pub use Rattle.pfl_edits.specs as edits
pub use Rattle.pfl_publish.specs as publish
pub use Rattle.pfl_timeline.specs.queue as queue
pub use Rattle.pfl_language.specs as language
pub use Rattle.pfl_timeline.specs.world as world
pub use Rattle.pfl_timeline.specs as timeline
