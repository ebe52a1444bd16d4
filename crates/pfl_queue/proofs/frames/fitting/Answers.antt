use Rattle.std.proofs.Common.{arith}
use Rattle.pfl_queue.proofs.Fitting.{nothing_fits, all_fit, stops_here, one_more, last_more}
use Rattle.pfl_queue.proofs.frames.fitting.Goals as goal

pub returns-then-mtu-lt-HEADER_LEN : goal.returns-then-mtu-lt-HEADER_LEN
returns-then-mtu-lt-HEADER_LEN c = record { longest = nothing_fits c.args.entries.now c.args.mtu c.if-mtu-lt-HEADER_LEN.true }

pub returns-then-left-cost : goal.returns-then-left-cost
returns-then-left-cost c = record {
  longest = stops_here c.args.entries.now c.args.mtu c.loop-i.i _ c.loop-i-test.true c.loop-i.left _ c.loop-i.before _
      c.loop-i.invariant.left c.loop-i.invariant.before c.action-action.ensures.action c.added-cost.ensures.added c.if-left-cost.true;
}

pub loop-i-preserved : goal.loop-i-preserved
loop-i-preserved c = record {
  left = one_more c.args.entries.now c.args.mtu c.loop-i.i _ c.loop-i-test.true c.loop-i.left _ c.loop-i.before _ c.loop-i.invariant.left
      c.loop-i.invariant.before c.action-action.ensures.action c.added-cost.ensures.added c.if-left-cost.false;
  before = last_more c.args.entries.now c.args.mtu c.loop-i.i _ c.loop-i-test.true c.loop-i.left _ c.loop-i.before _
      c.loop-i.invariant.left c.loop-i.invariant.before c.action-action.ensures.action c.added-cost.ensures.added;
}

pub returns : goal.returns
returns c = record {
  longest = all_fit c.args.entries.now c.args.mtu c.loop-i.left c.loop-i.i
      (omega (arith, c.loop-i-test.false, c.loop-i.auto.i-end)) c.loop-i.invariant.left;
}
