use Rattle.std.proofs.Common.{◌<◌, ◌∙◌, sym, arith}
use Rattle.std.proofs.lemmas.Bool.Decides.{nat_tests}
use Rattle.pfl_queue.proofs.Turned.{first-place, first-above, none-above}
use Rattle.pfl_queue.proofs.marked.belongs_first.Goals as goal

pub at-requires : goal.at-requires
at-requires g c = record { stands = (first-place c.args.queues.now c.args.kind c.in-Some.slot c.requires.kind (sym c.in-Some.is ∙ c.first.ensures.first)).at }

pub returns-in-Some : goal.returns-in-Some
returns-in-Some g c = record {
  first = λ low.
      let first = first-place c.args.queues.now c.args.kind c.in-Some.slot c.requires.kind (sym c.in-Some.is ∙ c.first.ensures.first) in
      let less : c.args.number < c.at.result.now.number = grind (arith, nat_tests) in
      first-above c.args.queues.now c.args.kind c.in-Some.slot c.args.number first c.requires.rising c.at.result.now (c.at.ensures.value first.at) less;
}

pub returns-in-None : goal.returns-in-None
returns-in-None g c = record { first = λ low. none-above c.args.queues.now c.args.kind c.args.number (sym c.in-None.is ∙ c.first.ensures.first) }
