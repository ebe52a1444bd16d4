pub mod Lines
pub mod Scans
pub mod Readers
pub mod Saids
pub mod inner
pub use Rattle.pfl_base.specs as base
pub use Rattle.pfl_language.specs as language
pub use Rattle.pfl_lines.specs as lines
