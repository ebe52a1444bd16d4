pub mod Texts
pub mod Sessions
pub mod Seats
pub mod Services
pub mod Laws
pub mod inner
pub use Rattle.pfl_base.specs as base
pub use Rattle.pfl_session.specs.publish as publish
pub use Rattle.pfl_language.specs as language
pub use Rattle.pfl_script.specs.timeline as timeline
pub use Rattle.pfl_session.specs as session
pub use Rattle.pfl_script.specs.lines as lines
pub use Rattle.pfl_script.specs.reader as reader
pub use Rattle.pfl_script.specs as script
