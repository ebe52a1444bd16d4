use Rattle.std.proofs.Common.{subst}
use Rattle.pfl_session.specs.Labs.{HasSeenOwn}
use Rattle.pfl_session.proofs.Asked.{met-own}
use Rattle.pfl_session.proofs.ledger.Ledger.settle.Goals as goal

pub returns-clause-seen : goal.returns-clause-seen
returns-clause-seen g c = subst (λ js. HasSeenOwn g.J.Which.opening js c.args.pass) c.catch_up.ensures.journal (met-own _ _ _ _ _ _ c.catch_up.ensures.met)
