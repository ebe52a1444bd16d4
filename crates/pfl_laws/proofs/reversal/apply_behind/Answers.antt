use Rattle.pfl_laws.proofs.Accepted.{leads-on}
use Rattle.pfl_world.proofs.ForCallers.{event_wants}
use Rattle.pfl_laws.proofs.reversal.apply_behind.Goals as goal

pub returns-clause-leads_on : goal.returns-clause-leads_on
returns-clause-leads_on g c =
    leads-on c.args.changed.now.list c.reserve.new.self.list c.record_all.new.changed.list c.in_ok-_outcome.change.list c.args.world.now c.apply.new.self
    c.record_all.ensures.list c.reserve.ensures.list c.in_ok-_outcome.ensures.fits c.in_ok-_outcome.ensures.back

pub returns-then-is_err-clause-refused : goal.returns-then-is_err-clause-refused
returns-then-is_err-clause-refused g c = event_wants c.args.world.now c.args.event.now _ c.in_ok-_outcome.ensures.step
