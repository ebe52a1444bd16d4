-- What proofs of other crates may cite of this crate's proofs; the rest of proofs/ is its own.
pub use Rattle.pfl_containers.proofs.OrderEntries.{map_of-none, get-map_of, len-map_of}
pub use Rattle.pfl_containers.proofs.Places.{Place-new, Stands, length-with_links, links_of-other, links_of-same}
pub use Rattle.pfl_containers.proofs.Mapped.{entries-map_values, get-map_values, keys-map_values, len-map_values, map_values-empty, map_values-set_at}
pub use Rattle.pfl_containers.proofs.Mapped.{values-map_values}
pub use Rattle.pfl_containers.proofs.SlotIndexes.{found-stands, gained, has_none, index-kept, index-new, index-room, key_of_row, lost}
pub use Rattle.pfl_containers.proofs.SlotIndexes.{made-empty, made-get, made-len, made-with, made-without, not_its_key, others-none, stands-found}
pub use Rattle.pfl_containers.proofs.SlotTags.{tagged-found, tagged-fresh, tagged-gained, tagged-has, tagged-kept, tagged-len, tagged-lost}
pub use Rattle.pfl_containers.proofs.SlotTags.{tagged-moved, tagged-new, tagged-room, tagged-stands}
