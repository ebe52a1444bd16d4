-- What proofs of other crates may cite of this crate's proofs; the rest of proofs/ is its own.
pub use Rattle.pfl_base.proofs.Each.{each-append, each-drop, each-filter, each-get_or, each-in_order, each-map, each-put_before, each-take, each-weaker}
pub use Rattle.pfl_base.proofs.Names.{apart, is_name-itself, is_name-same, names_exact, names_total}
