-- What proofs of other crates may cite of this crate's proofs; the rest of proofs/ is its own.
pub use Rattle.pfl_run.proofs.Devices.{setup_calls, setup_has_failed}
