use Rattle.std.proofs.Common.{◌≡◌}
use Rattle.pfl_containers.specs.inner.SlotWords.{entries_in, tag_map}
use Rattle.pfl_containers.proofs.SlotTagged.{IsClosing}
use Rattle.pfl_containers.proofs.slots.words.close_gap.Given as goal

abbrev pub invariant-loop-place : goal.invariant-loop-place
invariant-loop-place l = record {
  closing : IsClosing l.buckets (entries_in l.words) l.gap l.place;
  map : tag_map l.words ≡ tag_map l.initial.words;
}
