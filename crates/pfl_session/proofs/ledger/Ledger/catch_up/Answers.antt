use Rattle.std.specs.Prelude.{length}
use Rattle.pfl_session.proofs.Asked.{has-met}
use Rattle.pfl_session.proofs.ledger.Ledger.catch_up.Goals as goal

pub returns-clause-met : goal.returns-clause-met
returns-clause-met g c =
    has-met g.J.Which.opening
    (length g.J.Which.tallies) g.J.Which.limit c.args.self.now c.compare.new.self c.meet.new.self c.args.pass.now c.compare.new.pass
    c.meet.new.pass c.compare.ensures.journal c.meet.ensures.journal c.compare.ensures.pass c.compare.ensures.below c.compare.ensures.counted
    c.meet.ensures.goes_on c.meet.ensures.half c.meet.ensures.legal c.meet.ensures.seen
