use Rattle.std.proofs.Common.{◌∙◌, ap}
use Rattle.pfl_containers.specs.inner.SlotWords.{tag_map}
use Rattle.pfl_containers.proofs.SlotFields.{resized, tag_map-free, words-free}
use Rattle.pfl_containers.proofs.slots.growth.spread.Goals as goal

pub put_all-requires-clause-words : goal.put_all-requires-clause-words
put_all-requires-clause-words g c =
    let items = rw c.unwrap-2.ensures at c.resize.ensures.items in
    let free = c.deref_mut.ensures.value ∙ (items ∙ resized _ _ _ _ c.clear.ensures.items c.clear.ensures.len) in
    rw free (words-free c.args.buckets _ c.free.result c.free.ensures.free)

pub put_all-requires-clause-empty : goal.put_all-requires-clause-empty
put_all-requires-clause-empty g c =
    let items = rw c.unwrap-2.ensures at c.resize.ensures.items in
    let free = c.deref_mut.ensures.value ∙ (items ∙ resized _ _ _ _ c.clear.ensures.items c.clear.ensures.len) in
    ap tag_map free ∙ tag_map-free _ c.free.result c.free.ensures.free
