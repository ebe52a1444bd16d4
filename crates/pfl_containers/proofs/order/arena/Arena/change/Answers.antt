use Rattle.pfl_containers.proofs.Filling.{changes}
use Rattle.pfl_containers.proofs.order.arena.Arena.change.Goals as goal

pub returns : goal.returns
returns g c = record { changes = changes g.met.K.Ordered.total c.args.self.now _ c.args.node _ _ (rw (← c.deref_mut.ensures.value) c.put.ensures.put) }
