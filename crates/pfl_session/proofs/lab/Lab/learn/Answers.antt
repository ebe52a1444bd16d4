use Rattle.std.proofs.Common.{refl, sym, ◌∙◌}
use Rattle.pfl_session.proofs.Replays.{seen-on}
use Rattle.pfl_session.proofs.lab.Lab.learn.Goals as goal

pub invariant_of-pass : goal.invariant_of-pass
invariant_of-pass g c = (
  c.learn-learnt.new.viewer,
  c.pass.invariant.1,
  refl,
  c.pass.invariant.3,
  c.learn-learnt.ensures.closed,
  seen-on _ _ c.in-Some.viewer c.pass.invariant.0 _ (sym c.in-Some.is
      ∙ (c.take.ensures.value ∙ c.pass.invariant.2)) c.learn-learnt.ensures.seen.1 c.pass.invariant.5,
  c.pass.invariant.6,
)
