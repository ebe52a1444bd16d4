-- What proofs of other crates may cite of this crate's proofs; the rest of proofs/ is its own.
pub use Rattle.pfl_queue.proofs.Carried.{frame_carries, pending-in_turn}
pub use Rattle.pfl_queue.proofs.Framed.{Stands, frame_begins, frame_fits, frame_stands, mark_stood}
pub use Rattle.pfl_queue.proofs.Fronts.{first_found, front_gone, next_stays, redone_gone}
pub use Rattle.pfl_queue.proofs.Keeping.{clear_kept, gone_kept, kept, marked_kept, request_kept, status_kept, unmarked_absent, unmarked_kept}
