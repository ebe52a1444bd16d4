use Rattle.std.proofs.Common.{◌∙◌, refl, arith}
use Rattle.pfl_publish.proofs.Keeps.{start_next, stores_next, stored_next}
use Rattle.pfl_publish.proofs.steps.store_words.Goals as goal

pub loop-i-init : goal.loop-i-init
loop-i-init g c = let part = c.requires.part in (refl, start_next c.args.seat.now.me c.args.revision.words part.1)

pub store-requires : goal.store-requires
store-requires g c =
    let part = c.requires.part in let is = c.loop-i.invariant in let words = c.requires.table.1 in let near = c.word_index.ensures.within
    in let long = c.requires.revision.0 in (
      is.0 ∙ c.requires.table.0,
      omega arith,
      stores_next _ _ c.loop-i.seat.me c.args.seat.now.me.0 c.args.seat.now.me.1 c.args.revision.words c.args.number c.loop-i.i
          c.word_index.result is.1 part.0 part.2 long c.loop-i-test.true c.word_index.ensures.is,
    )

pub loop-i-preserved : goal.loop-i-preserved
loop-i-preserved g c =
    let is = c.loop-i.invariant in let next = c.store.ensures in let long = c.requires.revision.0 in let below = c.loop-i-test.true in
    (next.0 ∙ is.0, stored_next c.loop-i.seat.me _ c.args.seat.now.me.0 c.args.seat.now.me.1 c.args.revision.words c.loop-i.i _ is.1 next.2 refl (omega arith))
