use Rattle.std.specs.Prelude.{◌≡◌, Bool, IfOk}
use Rattle.std.proofs.Common.{◌∙◌, subst, sym}
use Rattle.pfl_search.proofs.Meeting.{meets-asked, meets-not_asked}
use Rattle.pfl_search.proofs.runs.meets_if.Goals as goal

pub returns-then-not-asked-clause-meets : goal.returns-then-not-asked-clause-meets
returns-then-not-asked-clause-meets g c = meets-not_asked c.args.goal.now c.args.world.now (sym c.if-not-asked.true ∙ c.requires.asked)

pub returns-clause-meets : goal.returns-clause-meets
returns-clause-meets g c =
    subst (λ (b : Bool). IfOk c.answer.result (λ met. met ≡ b)) (meets-asked c.args.goal.now c.args.world.now (sym c.if-not-asked.false ∙ c.requires.asked))
    c.answer.ensures.answer
