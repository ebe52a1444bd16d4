use Rattle.std.proofs.Common.{◌∙◌, ap, subst}
use Rattle.pfl_base.specs.declared.refusal.Refusal.{Refusal}
use Rattle.pfl_world.specs.Events.{IsEventRefusal}
use Rattle.pfl_world.specs.Worlds.{World}
use Rattle.pfl_reasons.specs.Against.{against}
use Rattle.pfl_reasons.specs.Explaining.{Stopped, explained_outcome}
use Rattle.pfl_reasons.proofs.Coming.{accepted-by, came-err, explained-err, explained-ok, refused-by}
use Rattle.pfl_reasons.proofs.explaining.explain.Goals as goal

pub revert-requires : goal.revert-requires
revert-requires g c = record { fits = c.in-Ok.ensures.fits }

pub returns-in_ok-reason-in-Ok-clause-explained : goal.returns-in_ok-reason-in-Ok-clause-explained
returns-in_ok-reason-in-Ok-clause-explained g c =
    c.in_ok-reason-in-Ok.ensures.explained
    ∙ (ap (λ (w : World). explained_outcome w c.args.event.now) (c.revert.ensures.reverted ∙ c.in-Ok.ensures.back)
    ∙ explained-ok c.args.world.now c.args.event.now _ c.in-Ok.ensures.step)

pub returns-in-NoMemory-clause-memory : goal.returns-in-NoMemory-clause-memory
returns-in-NoMemory-clause-memory g c =
    accepted-by c.args.world.now c.args.event.now
    (subst (λ (r : Refusal). IsEventRefusal c.args.world.now c.args.event.now r) c.in-NoMemory.is c.in-Err.ensures.refused)

pub returns-in_default : goal.returns-in_default
returns-in_default g c =
    let w = c.args.world.now in
    let e = c.args.event.now in
    let refused = refused-by w e c.in-Err.why c.in-Err.ensures.refused c.in_default.not-NoMemory in
    record {
      came = came-err w e c.in-Err.why refused;
      explained = ap Stopped (c.against_of.ensures ∙ ap (λ (v : World). against v e c.in-Err.why) c.in-Err.ensures.unchanged)
          ∙ explained-err w e c.in-Err.why refused;
      memory = tt;
      still = c.in-Err.ensures.unchanged;
    }
