use Rattle.std.proofs.Common.{◌∙◌, ap}
use Rattle.std.specs.Option.{option_map}
use Rattle.pfl_table.specs.declared.row.Row.{Row}
use Rattle.pfl_table.proofs.Moving.{link_found-state}
use Rattle.pfl_table.proofs.table.StateTable.find.Goals as goal

pub returns-in_err-slot : goal.returns-in_err-slot
returns-in_err-slot g c = record {
  state = rw (← c.self.view_is) (rw c.from_residual.ensures (ap (option_map (λ (r : Row). r.state)) c.in_err-slot.ensures.row
      ∙ link_found-state c.self.inside.stored c.known.ensures.filed c.args.key.now c.args.direction));
}

pub returns : goal.returns
returns g c = record {
  state = rw (← c.self.view_is) (ap (option_map (λ (r : Row). r.state)) c.in_ok-slot.ensures.row
      ∙ link_found-state c.self.inside.stored c.known.ensures.filed c.args.key.now c.args.direction);
}
