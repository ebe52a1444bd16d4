use Rattle.std.proofs.Common.{◌≡◌, None, inl, inr, ap, sym, ◌∙◌, arith}
use Rattle.std.proofs.lemmas.Bool.{cases_eq, false≢true}
use Rattle.std.specs.Option.{is_some}
use Rattle.pfl_containers.specs.inner.SlotWords.{entry_at}
use Rattle.pfl_containers.proofs.SlotEntries.{entry-read}
use Rattle.pfl_containers.proofs.slots.words.free_from.Goals as goal

pub loop-place-preserved : goal.loop-place-preserved
loop-place-preserved c = λ i from before none.
    let at = c.loop-place.place in
    elim (cases_eq i at) [
      | inl same ↦
          let read : c.entry.result ≡ None = c.entry.ensures.entry
          ∙ (sym (entry-read c.args.words.now at _ c.loop-place-test.true) ∙ (ap (entry_at c.args.words.now) (sym same) ∙ none)) in
          false≢true (ap is_some (sym read) ∙ c.if-is_none.ensures)
      | inr other ↦ c.loop-place.invariant i from (omega arith) none
    ]
