use Rattle.std.proofs.Common.{◌≡◌, ◌≤◌, ◌<◌, length, Some, ◌∙◌, sym, arith}
use Rattle.std.proofs.lemmas.List.{get_or_past, length-map}
use Rattle.pfl_containers.specs.inner.SlotWords.{entry_in, entries_in, entry_at}
use Rattle.pfl_containers.proofs.SlotTagged.{closed, closing-kept}
use Rattle.pfl_containers.proofs.SlotEntries.{entry-read, words-moved, tags-moved}
use Rattle.pfl_containers.proofs.slots.words.close_gap.Goals as goal
use Rattle.pfl_containers.proofs.slots.words.close_gap.Goals.{then-home_of-gap, else-home_of-gap}

pub loop-place-preserved : goal.loop-place-preserved
loop-place-preserved c =
    let within : c.loop-place.place < length c.loop-place.words = omega arith in
    let word = sym c.entry.ensures.entry ∙ c.in-Some.is in
    let here : entry_at c.loop-place.words c.loop-place.place ≡ Some (c.in-Some.field-0-0, c.in-Some.tag) = entry-read _ _ _ within ∙ word in
    elim c.if-home_of-gap.branch [
      | then-home_of-gap w ↦
          let near = rw c.home_of.ensures.home at w.if-home_of-gap.true in
          rw (w.words-is, w.gap-is) (record {
            closing = words-moved c.loop-place.words c.loop-place.invariant.closing _ here _ _ word w.free.ensures.free near;
            map = tags-moved c.loop-place.words c.loop-place.invariant.closing _ here _ _ word w.free.ensures.free ∙ c.loop-place.invariant.map;
          })
      | else-home_of-gap w ↦
          let far = rw c.home_of.ensures.home at w.if-home_of-gap.false in
          rw (w.words-is, w.gap-is) (record {
            closing = closing-kept c.loop-place.invariant.closing _ here far;
            map = c.loop-place.invariant.map;
          })
    ]

pub returns-in-None-clause-words : goal.returns-in-None-clause-words
returns-in-None-clause-words c =
    let within : c.loop-place.place < length c.loop-place.words = omega arith in
    closed c.loop-place.invariant.closing (entry-read _ _ _ within ∙ (sym c.entry.ensures.entry ∙ c.in-None.is))

pub returns-clause-words : goal.returns-clause-words
returns-clause-words c =
    let past : length c.loop-place.words ≤ c.loop-place.place = omega arith in
    closed c.loop-place.invariant.closing (get_or_past (entries_in c.loop-place.words) _ _ (omega (arith, length-map c.loop-place.words entry_in, past)))
