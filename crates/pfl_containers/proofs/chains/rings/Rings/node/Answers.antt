use Rattle.std.proofs.Common.{arith}
use Rattle.pfl_containers.proofs.RingNodes.{slot-read, head-read}
use Rattle.pfl_containers.proofs.chains.rings.Rings.node.Goals as goal

pub returns-then-at-self : goal.returns-then-at-self
returns-then-at-self g c = record { node = slot-read _ _ _ (omega arith) (omega (arith, c.requires.node.slot)) c.index.ensures }

pub returns-else-at-self : goal.returns-else-at-self
returns-else-at-self g c = record { node = head-read _ _ _ (omega arith) (omega arith) c.index-else-at-self.ensures }
