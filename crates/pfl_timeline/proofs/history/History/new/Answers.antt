use Rattle.pfl_timeline.proofs.Runs.{kept-new}
use Rattle.pfl_timeline.proofs.history.History.new.Goals as goal

pub invariant_of-result : goal.invariant_of-result
invariant_of-result g c = rw (c.new.ensures.events, c.new-2.ensures.list, c.new-3.ensures.items) (kept-new c.args.world c.known.ensures.world)
