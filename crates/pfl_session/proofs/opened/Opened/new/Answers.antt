use Rattle.std.proofs.Common.{[], ◌∷◌, length, ap, sym, ◌∙◌, arith, length-append}
use Rattle.pfl_session.specs.Labs.{Setup}
use Rattle.pfl_session.proofs.Seatings.{no-fault}
use Rattle.pfl_session.proofs.opened.Opened.new.Goals as goal

pub without_sessions-requires-clause-small : goal.without_sessions-requires-clause-small
without_sessions-requires-clause-small g c = no-fault c.args.sessions c.args.journal (sym c.fault_of.ensures ∙ c.in_default.is)

pub loop-session-preserved : goal.loop-session-preserved
loop-session-preserved g c =
    let added = c.in_ok-add.ensures.added in
    let many = c.loop-session.invariant.many in
    record {
      opening = ap (λ (o : Setup). o.opening) added.1 ∙ c.loop-session.invariant.opening;
      setup = ap (λ (o : Setup). o.setup) added.1 ∙ c.loop-session.invariant.setup;
      limit = ap (λ (o : Setup). o.limit) added.1 ∙ c.loop-session.invariant.limit;
      many = omega (arith, ap (λ (o : Setup). length o.tallies) added.1, length-append c.loop-session.opened.tallies (added.0 ∷ []), many);
    }
