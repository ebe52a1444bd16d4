use Rattle.std.proofs.Common.{◌≡◌, ◌∙◌, ◌++◌, ◌∷◌, [], sym, ap, arith, rules}
use Rattle.pfl_base.proofs.ForCallers.{each-append}
use Rattle.pfl_host.proofs.Printing.{notes_then}
use Rattle.pfl_host.proofs.admission.admit_all.Goals as goal

-- nobody came any more
pub returns-in_err-admit-clause-noted : goal.returns-in_err-admit-clause-noted
returns-in_err-admit-clause-noted g c = notes_then _ _ _ _ _ _ _ _ _ c.loop.invariant.noted c.admit.ensures.noted

-- one more came
pub loop-preserved : goal.loop-preserved
loop-preserved g c = record {
  given = search rules;
  unfailed = rw c.push_reserved.ensures.items (each-append _ _ _ c.loop.invariant.unfailed c.in_ok-admit.ensures.unfailed);
  so_far = search rules;
  few = search rules;
  room = search rules;
  port = search rules;
  noted = notes_then _ _ _ _ _ _ _ _ _ c.loop.invariant.noted c.admit.ensures.noted;
}
