use Rattle.std.proofs.Common.{arith, ◌≤◌, length}
use Rattle.pfl_laws.proofs.Accepted.{along-next, along-all}
use Rattle.pfl_laws.proofs.reversal.all_there_and_back.Goals as goal

pub loop-event-preserved : goal.loop-event-preserved
loop-event-preserved g c =
    along-next c.args.world.now c.args.events.now c.loop-event.event-index c.loop-event.world c.loop-event.changed.list c.loop-event.invariant
    c.event-item.result c.loop-event-test.true c.event-item.is c.apply_behind.new.world c.apply_behind.new.changed.list
    c.in_default.ensures.accepted c.in_default.ensures.leads_on

pub returns-clause-accepted : goal.returns-clause-accepted
returns-clause-accepted g c =
    let all : length c.args.events.now ≤ c.loop-event.event-index = omega (arith, c.loop-event-test.false) in
    along-all c.args.world.now c.args.events.now c.loop-event.event-index c.loop-event.world c.loop-event.changed.list c.loop-event.invariant all
