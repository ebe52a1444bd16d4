pub mod Timelines
pub mod Excisions
pub mod Replies
pub mod Sizes
pub mod Searches
pub mod Answers
pub mod Commands
pub mod Memory
pub mod Looks
pub mod Histories
pub mod Rooted
pub mod Kept
pub mod Codes
pub mod Summaries
pub mod Laws
pub mod inner
pub use Rattle.pfl_base.specs as base
pub use Rattle.pfl_edits.specs as edits
pub use Rattle.pfl_search.specs.world.rules as rules
pub use Rattle.pfl_search.specs.world.queue as queue
pub use Rattle.pfl_language.specs as language
pub use Rattle.pfl_search.specs.world.desk as desk
pub use Rattle.pfl_search.specs.world as world
pub use Rattle.pfl_search.specs as search
pub use Rattle.pfl_reasons.specs as reasons
