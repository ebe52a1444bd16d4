pub mod Reports
pub mod Servers
pub mod Obeys
pub use Rattle.pfl_base.specs as base
pub use Rattle.pfl_doors.specs as doors
pub use Rattle.pfl_run.specs.timeline as timeline
pub use Rattle.pfl_serve.specs.session as session
pub use Rattle.pfl_run.specs.reader as reader
pub use Rattle.pfl_run.specs.script as script
pub use Rattle.pfl_serve.specs as serve
pub use Rattle.pfl_run.specs as run
