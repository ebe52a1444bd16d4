-- What proofs of other crates may cite of this crate's proofs; the rest of proofs/ is its own.
pub use Rattle.pfl_timeline.proofs.Answering.{brought, each, named, stepped, unless, within}
pub use Rattle.pfl_timeline.proofs.Shows.{branches-show-runs}
pub use Rattle.pfl_search.proofs.ForCallers.world as world
pub use Rattle.pfl_timeline.proofs.Distinct.{all_behind, all_others}
pub use Rattle.pfl_timeline.proofs.Keeping.{all_put, found_is}
pub use Rattle.pfl_timeline.proofs.Replying.{each-command, listing-keeps, listing-wants}
