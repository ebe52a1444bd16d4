pub mod Receiving
pub mod Bringing
pub mod Delivering
pub mod inner
pub use Rattle.pfl_base.specs as base
pub use Rattle.pfl_edits.specs as edits
pub use Rattle.pfl_track.specs as track
pub use Rattle.pfl_desk.specs.table as table
pub use Rattle.pfl_wire.specs as wire
pub use Rattle.pfl_desk.specs.queue as queue
pub use Rattle.pfl_merge.specs as merge
pub use Rattle.pfl_desk.specs.defer as defer
pub use Rattle.pfl_desk.specs.bulk as bulk
pub use Rattle.pfl_desk.specs as desk
