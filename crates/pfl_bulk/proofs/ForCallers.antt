-- What proofs of other crates may cite of this crate's proofs; the rest of proofs/ is its own.
pub use Rattle.pfl_bulk.proofs.FirstNames.{after_turn-first, is_last_turn-first, turn_names-first}
