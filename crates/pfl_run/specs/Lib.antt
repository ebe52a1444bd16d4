pub mod Faults
pub mod Runs
pub mod Checks
pub mod Modes
pub mod inner
pub use Rattle.pfl_rules.specs as rules
pub use Rattle.pfl_language.specs as language
pub use Rattle.pfl_script.specs.world as world
pub use Rattle.pfl_script.specs.timeline as timeline
pub use Rattle.pfl_script.specs.lines as lines
pub use Rattle.pfl_script.specs.reader as reader
pub use Rattle.pfl_script.specs as script
