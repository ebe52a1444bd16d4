use Rattle.std.proofs.Common.{refl, Some, ◌∙◌, ap, sym}
use Rattle.std.specs.Option.{option_map}
use Rattle.pfl_table.specs.inner.Ordering.{flow_of}
use Rattle.pfl_table.specs.inner.Filed.{Filing, row_of_link}
use Rattle.pfl_table.proofs.Storing.{flow-found, found-place}
use Rattle.pfl_table.proofs.stored.Stored.found.Goals as goal

pub at-requires : goal.at-requires
at-requires g c =
    let at = flow-found c.args.self.now.links (flow_of c.args.key.now) c.args.direction (Some c.in_ok-slot.slot) c.in_ok-slot.ensures.slot in
    record {
      stands = (found-place c.self.inside.rows c.args.self.now.links (Some c.in_ok-slot.slot) c.in_ok-slot.slot
          (ap (λ (f : Filing). f.links) (sym c.self.view_is)) refl c.self.invariant.one at).at;
    }

pub returns : goal.returns
returns g c =
    let at = flow-found c.args.self.now.links (flow_of c.args.key.now) c.args.direction (Some c.in_ok-slot.slot) c.in_ok-slot.ensures.slot in
    let place = found-place c.self.inside.rows c.args.self.now.links (Some c.in_ok-slot.slot) c.in_ok-slot.slot
    (ap (λ (f : Filing). f.links) (sym c.self.view_is)) refl c.self.invariant.one at in
    record {
      row = ap Some (c.at.ensures.value place.at) ∙ sym (ap (option_map row_of_link) place.is);
    }
