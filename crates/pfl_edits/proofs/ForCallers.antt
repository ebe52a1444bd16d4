-- What proofs of other crates may cite of this crate's proofs; the rest of proofs/ is its own.
pub use Rattle.pfl_edits.proofs.Leading.{Fits-append, Fits-front, Fits-rest, LeadsBack-append, LeadsBack-embedded, LeadsBack-none, LeadsBack-one}
pub use Rattle.pfl_edits.proofs.Leading.{back-append}
pub use Rattle.pfl_edits.proofs.Maps.{contains_key-keys, empty_of_len, entries-empty, entries-from_sorted, entries-insert, get-empty, get-entries}
pub use Rattle.pfl_edits.proofs.Maps.{get-insert, len-empty, len-entries, len-insert, len-remove, same_map}
unfoldable pub use Rattle.pfl_edits.proofs.Maps.{computing}
pub use Rattle.pfl_edits.proofs.Places.{equal_is, get-set_at, get-set_at_cases, get-set_at_other, get-set_at_same, key-both_ways, key_cases}
pub use Rattle.pfl_edits.proofs.Places.{part-both_ways, position-both_ways, set_at-back, set_at-keyed, set_at-same, set_at-set_at, value-both_ways}
pub use Rattle.pfl_edits.proofs.Places.{with_position-back, with_position-stands}
pub use Rattle.pfl_edits.proofs.RowMaps.{Distinct, Distinct-rising, Distinct-without, entries-map_of, filed, get-map_of, keys-map_of, len-map_of}
pub use Rattle.pfl_edits.proofs.RowMaps.{map_more, map_of-between, map_of-without, own_key, row_at, row_at-between, same_key, some_is_none}
pub use Rattle.pfl_edits.proofs.RowMaps.{values-map_of}
pub use Rattle.pfl_edits.proofs.Scans.{first_value, first_value-stands, no_value_passes}
