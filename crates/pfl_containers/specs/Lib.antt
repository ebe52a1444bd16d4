pub mod Hashes
pub mod OrderEntries
pub mod Lists
pub mod NameKeys
pub mod Mapped
pub mod SlotIndexes
pub mod Slots
pub mod inner
pub use Rattle.pfl_base.specs as base
pub use Rattle.pfl_edits.specs as edits
