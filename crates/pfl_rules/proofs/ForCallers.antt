-- What proofs of other crates may cite of this crate's proofs; the rest of proofs/ is its own.
pub use Rattle.pfl_rules.proofs.Cases.{plain_rule}
pub use Rattle.pfl_rules.proofs.Verdicts.{few}
