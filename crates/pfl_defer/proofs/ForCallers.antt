-- What proofs of other crates may cite of this crate's proofs; the rest of proofs/ is its own.
pub use Rattle.pfl_defer.proofs.Kept.{absent_stays, found_place, kept_stood, last_cases, let_go-keeps, with_held-keeps, with_room-has_room}
