-- What proofs of other crates may cite of this crate's proofs; the rest of proofs/ is its own.
pub use Rattle.pfl_track.proofs.Keeping.{start-is}
pub use Rattle.pfl_track.proofs.Names.{Stays}
pub use Rattle.pfl_track.proofs.RuleMoving.{ends-move, tracked_by-stays}
pub use Rattle.pfl_track.proofs.RuleRising.{lowers-none, stays-state}
