-- What proofs of other crates may cite of this crate's proofs; the rest of proofs/ is its own.
pub use Rattle.pfl_session.proofs.Replays.{calls-history, calls-since, count-append, count-begun, count-own, goes-on, length-history}
pub use Rattle.pfl_session.proofs.Seatings.{passes-many}
pub use Rattle.pfl_publish.proofs.ForCallers as publish
