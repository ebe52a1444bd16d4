use Rattle.std.proofs.Common.{◌∙◌, sym}
use Rattle.pfl_desk.specs.queue.declared.Kind.TheVariants.{Update}
use Rattle.pfl_desk.proofs.ForCallers.{told-may}
use Rattle.pfl_receive.proofs.deciding.answer_decision.Goals as goal

pub returns-then-is_partly_announced-clause-may : goal.returns-then-is_partly_announced-clause-may
returns-then-is_partly_announced-clause-may g c =
    let s = c.args.state.now in
    let told = sym c.no_sync.ensures ∙ c.if-not-no_sync.true in
    rw c.name-then-is_partly_announced.ensures (told-may c.args.parts.now s.name Update s c.requires.stands told
    (c.requires.parts.each s.name s c.requires.stands).given (λ e. cc))
