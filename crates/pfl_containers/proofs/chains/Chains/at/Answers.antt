use Rattle.std.proofs.Common.{arith, ◌∙◌}
use Rattle.std.proofs.lemmas.Option.{get_or_from_slice_get}
use Rattle.pfl_containers.proofs.Views.{place-below, place-there}
use Rattle.pfl_containers.proofs.chains.Chains.at.Goals as goal

pub index-requires : goal.index-requires
index-requires g c =
    let below = place-below _ _ _ _ _ c.self.invariant.0 _ c.self.view_is _ c.requires.stands in
    omega arith

pub returns : goal.returns
returns g c = record {
  value = λ at. c.index.ensures ∙ get_or_from_slice_get c.self.inside.values.items c.args.slot at.value c.index.result.now
      (place-there _ _ _ _ _ c.self.invariant.0 _ c.self.view_is _ at);
}
