use Rattle.std.proofs.Common.{arith}
use Rattle.std.proofs.lemmas.List.Sums.{prefix_len-drop_all}
use Rattle.pfl_receive.specs.queue.Taking.{entry_action, one_action}
use Rattle.pfl_node.proofs.flush.frame.run_of.Goals as goal

pub returns : goal.returns
returns c = omega (
  arith,
  c.loop-i.invariant,
  prefix_len-drop_all
      (λ e. one_action (entry_action e) c.args.action) c.args.entries.now c.loop-i.i (omega (arith, c.loop-i-test.false, c.loop-i.auto.i-end)),
)
