use Rattle.std.proofs.Common.{◌<◌, ◌∙◌, sym, arith}
use Rattle.std.proofs.lemmas.Bool.Decides.{nat_tests}
use Rattle.pfl_queue.specs.inner.Marked.{mark_number}
use Rattle.pfl_queue.proofs.Gaps.{last-place, last-below, none-below}
use Rattle.pfl_queue.proofs.marked.belongs_last.Goals as goal

pub at-requires : goal.at-requires
at-requires g c = record { stands = (last-place c.args.queues.now c.args.kind c.in-Some.slot c.requires.kind (sym c.in-Some.is ∙ c.last.ensures.last)).at }

pub returns-in-Some : goal.returns-in-Some
returns-in-Some g c = record {
  last = λ low.
      let last = last-place c.args.queues.now c.args.kind c.in-Some.slot c.requires.kind (sym c.in-Some.is ∙ c.last.ensures.last) in
      let less : c.at.result.now.number < c.args.number = grind (arith, nat_tests) in
      last-below mark_number c.args.queues.now c.args.kind c.args.number c.in-Some.slot last c.requires.rising c.at.result.now
      (c.at.ensures.value last.at) less;
}

pub returns-in-None : goal.returns-in-None
returns-in-None g c = record { last = λ low. none-below mark_number c.args.queues.now c.args.kind c.args.number (sym c.in-None.is ∙ c.last.ensures.last) }
