use Rattle.std.proofs.Common.{arith}
use Rattle.pfl_containers.proofs.RingNodes.{heads-alone}
use Rattle.pfl_containers.proofs.chains.rings.Rings.new.Goals as goal

pub returns-clause-alone : goal.returns-clause-alone
returns-clause-alone g c = heads-alone _ c.args.count (omega arith) c.loop-ring.invariant.alone
