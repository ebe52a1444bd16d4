-- What proofs of other crates may cite of this crate's proofs; the rest of proofs/ is its own.
pub use Rattle.pfl_desk.proofs.Deferred.{freed-may, held-may, wanted-may}
pub use Rattle.pfl_desk.proofs.Deletions.{Rest, deleted-rest}
pub use Rattle.pfl_desk.proofs.Keeps.{keeps_next_id, state_still}
pub use Rattle.pfl_desk.proofs.Lasting.{left-same}
pub use Rattle.pfl_desk.proofs.NewNodes.{new_node-counts, new_node-is}
pub use Rattle.pfl_desk.proofs.Putting.{put-node, told-may}
pub use Rattle.pfl_desk.proofs.Recording.{writes-more, writes-none, writes-then}
pub use Rattle.pfl_desk.proofs.Settling.{leads_through, went-counted, went-refusal}
pub use Rattle.pfl_desk.proofs.Taking.{frame_entries, left-next}
pub use Rattle.pfl_table.proofs.ForCallers as table
pub use Rattle.pfl_queue.proofs.ForCallers as queue
pub use Rattle.pfl_defer.proofs.ForCallers as defer
