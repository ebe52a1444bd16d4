use Rattle.pfl_node.specs.inner.Carried.{Tried}
use Rattle.pfl_node.specs.Starting.{Handled}
use Rattle.pfl_node.proofs.Ruled.{judged-so}
use Rattle.pfl_node.proofs.packet.start.judge.Goals as goal

pub returns : goal.returns
returns g c = record {
  done = judged-so (λ (h : Handled). Tried 9 c.carry.result c.args.desk.now c.carry.new.desk h) _ _ _ _ _
      c.ask_rules-ruling.ensures.ruled c.parts.ensures.parts c.carry.ensures.done;
}
