-- What proofs of other crates may cite of this crate's proofs; the rest of proofs/ is its own.
pub use Rattle.pfl_script.proofs.Pieces.{appends_none, appends_then}
pub use Rattle.pfl_script.proofs.Running.{one_if-le, taken-all, taken-drained, taken-first, taken-line, taken-none}
pub use Rattle.pfl_timeline.proofs.ForCallers.world as world
pub use Rattle.pfl_reader.proofs.ForCallers as reader
