use Rattle.std.proofs.Common.{◌≡◌, Some, false, inl, inr, ap, sym, ◌∙◌, subst, arith, of_calls}
use Rattle.std.proofs.lemmas.Bool.{cases_eq}
use Rattle.pfl_containers.specs.inner.SlotWords.{entry_at}
use Rattle.pfl_containers.proofs.SlotEntries.{entry-read, same_parts}
use Rattle.pfl_containers.proofs.slots.words.find_in.Goals as goal
use Rattle.pfl_containers.proofs.slots.words.find_in.Goals.{else-found-tag-via-then-found-tag+else-is_it, else-found-tag-via-else-found-tag}

pub is_it-requires : goal.is_it-requires
is_it-requires g c =
    let here : entry_at c.args.words.now c.loop-place.place ≡ Some (c.in-Some.slot, c.args.tag) =
    entry-read c.args.words.now c.loop-place.place _ c.loop-place-test.true
    ∙ (sym c.entry.ensures.entry ∙ (c.in-Some.is ∙ ap (λ t. Some (c.in-Some.slot, t)) c.if-found-tag.true)) in
    search (of_calls, c.requires.callable _ _ here)

pub loop-place-preserved : goal.loop-place-preserved
loop-place-preserved g c = λ place slot from before is.
    let words = c.args.words.now in
    let at = c.loop-place.place in
    elim (cases_eq place at) [
      | inr other ↦ c.loop-place.invariant place slot from (omega arith) is
      | inl same ↦
          let one : Some (slot, c.args.tag) ≡ Some (c.in-Some.slot, c.in-Some.found) =
          sym is ∙ (ap (entry_at words) same ∙ (entry-read words at _ c.loop-place-test.true ∙ (sym c.entry.ensures.entry ∙ c.in-Some.is))) in
          let parts = same_parts slot c.args.tag c.in-Some.slot c.in-Some.found one in
          elim c.else-found-tag.branch [
            | else-found-tag-via-then-found-tag+else-is_it w ↦
                subst (λ s. goal.F-post g c.args.is_it s false) parts.0 (subst (goal.F-post g c.args.is_it c.in-Some.slot) w.if-is_it.false w.is_it.ensures)
            | else-found-tag-via-else-found-tag w ↦ absurd (w.if-found-tag.false parts.1)
          ]
    ]
