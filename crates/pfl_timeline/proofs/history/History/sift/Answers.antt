use Rattle.std.specs.Prelude.{false, true, Result, refl}
use Rattle.std.proofs.Common.{sym, subst}
use Rattle.pfl_base.specs.declared.refusal.Refusal.{Refusal}
use Rattle.pfl_search.specs.world.Meanings.{Stepped}
use Rattle.pfl_timeline.specs.inner.Histories.{SiftedBy}
use Rattle.pfl_timeline.proofs.Refusals.{refusal_is}
use Rattle.pfl_timeline.proofs.history.History.sift.Goals as goal

pub returns-in-Ok : goal.returns-in-Ok
returns-in-Ok g c =
    let done = c.in-Ok.ensures.stepped in (
      done.0,
      done.2,
      subst (λ (r : Result Stepped Refusal). SiftedBy c.args.self.now c.args.event.now c.extend.new.self true r)
          (sym done.3) (refl, c.in-Ok.ensures.extended),
    )

pub returns-in_default : goal.returns-in_default
returns-in_default g c =
    let why = c.in-Err.ensures.refused in (
      why.0,
      why.1,
      subst (λ (r : Result Stepped Refusal). SiftedBy c.args.self.now c.args.event.now c.extend.new.self false r)
          (sym (refusal_is why.0 c.args.event.now _ why.2 c.in_default.not-NoMemory)) (refl, c.in-Err.ensures.unchanged),
    )
