use Rattle.std.proofs.Common.{Some, ◌∙◌, ap, sym}
use Rattle.std.specs.Option.{option_map}
use Rattle.pfl_table.specs.inner.Filed.{Filing, row_of_link}
use Rattle.pfl_table.proofs.Storing.{found-place}
use Rattle.pfl_table.proofs.stored.Stored.at.Goals as goal

pub at-requires : goal.at-requires
at-requires g c =
    let place = found-place c.self.inside.rows c.args.self.now.links c.args.found c.in-Some.slot
    (ap (λ (f : Filing). f.links) (sym c.self.view_is)) c.in-Some.is c.self.invariant.one c.requires.stands in
    record { stands = place.at }

pub returns-in-Some : goal.returns-in-Some
returns-in-Some g c = record {
  row = λ at.
      let place = found-place c.self.inside.rows c.args.self.now.links c.args.found c.in-Some.slot
      (ap (λ (f : Filing). f.links) (sym c.self.view_is)) c.in-Some.is c.self.invariant.one at in
      ap Some (c.at.ensures.value place.at) ∙ sym (ap (option_map row_of_link) place.is);
}
