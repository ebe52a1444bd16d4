use Rattle.std.proofs.Common.{sym, ◌∙◌, arith}
use Rattle.std.proofs.lemmas.Bool.{false≢true}
use Rattle.pfl_containers.proofs.SlotEntries.{not-yet, number-stands, within_words}
use Rattle.pfl_containers.proofs.slots.words.place_of.Goals as goal

pub bounds-words-place : goal.bounds-words-place
bounds-words-place c =
    let there = c.requires.stands in
    let upto = c.loop-place.invariant there.0 there.1 there.2 there.3 in
    omega (arith, upto, within_words c.args.words.now there.0 (c.args.slot, there.1) there.3)

pub loop-place-preserved : goal.loop-place-preserved
loop-place-preserved c = λ place tag from is.
    not-yet c.args.words.now c.loop-place.place place c.args.slot tag (record { slot = 0; tag = 0 }) (c.loop-place.invariant place tag from is) is
    (λ same. false≢true (sym c.loop-place-test.true ∙ c.is_of.ensures.same.1 same))

pub returns : goal.returns
returns c =
    let there = c.requires.stands in
    let upto = c.loop-place.invariant there.0 there.1 there.2 there.3 in
    record {
      here = number-stands c.args.words.now c.loop-place.place there.0 c.args.slot there.1 (record { slot = 0; tag = 0 }) upto there.3
          (c.is_of.ensures.same.0 c.loop-place-test.false);
    }
