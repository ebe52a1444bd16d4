-- What proofs of other crates may cite of this crate's proofs; the rest of proofs/ is its own.
pub use Rattle.pfl_publish.proofs.Lists.{begun_all, begun_length, begun_since, words_at-append}
pub use Rattle.pfl_publish.proofs.Tries.{loads-none, loads-once, loads-since}
