-- What proofs of other crates may cite of this crate's proofs; the rest of proofs/ is its own.
pub use Rattle.pfl_session.proofs.ForCallers as session
pub use Rattle.pfl_serve.proofs.EndedSeats.{served-many}
