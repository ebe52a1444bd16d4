use Rattle.std.proofs.Common.{arith}
use Rattle.pfl_containers.proofs.RingNodes.{fits-set}
use Rattle.pfl_containers.proofs.Views.{place-below, place-valued}
use Rattle.pfl_containers.proofs.chains.Chains.change.Goals as goal

pub index_mut-requires : goal.index_mut-requires
index_mut-requires g c =
    let below = place-below _ _ _ _ _ c.self.invariant.0 _ c.self.view_is _ c.requires.stands in
    omega arith

pub invariant_of-self : goal.invariant_of-self
invariant_of-self g c = (
  (place-valued _ _ _ _ _ c.self.invariant.0 _ c.self.view_is _ c.requires.stands c.args.value).0,
  fits-set _ c.self.inside.values.items c.args.slot c.args.value _ _ c.self.invariant.1,
)

pub returns : goal.returns
returns g c = record { changed = λ at. (place-valued _ _ _ _ _ c.self.invariant.0 _ c.self.view_is _ at c.args.value).1 }
