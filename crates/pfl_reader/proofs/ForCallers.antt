-- What proofs of other crates may cite of this crate's proofs; the rest of proofs/ is its own.
pub use Rattle.pfl_reader.proofs.Advancing.{counted-line, counted-none, gave-line, gave-none}
pub use Rattle.pfl_reader.proofs.Turns.{Counts-begun, Counts-more, Counts-then}
