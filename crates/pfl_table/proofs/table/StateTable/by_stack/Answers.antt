use Rattle.std.proofs.Common.{sym, ◌∙◌, ap}
use Rattle.std.specs.Option.{option_map}
use Rattle.pfl_track.specs.declared.state.State.{State}
use Rattle.pfl_table.specs.declared.row.Row.{Row}
use Rattle.pfl_table.specs.inner.Filed.{row_of_link}
use Rattle.pfl_table.proofs.Viewed.{find-key, mapped_twice}
use Rattle.pfl_table.proofs.table.StateTable.by_stack.Goals as goal

pub returns : goal.returns
returns g c =
    let are = c.known.ensures.filed in
    record {
      state = rw (← c.self.view_is) (c.state_of.ensures ∙ (ap (option_map (λ (r : Row). r.state)) c.by_stack.ensures.row
          ∙ (mapped_twice (λ (r : Row). r.state) row_of_link _
          ∙ sym (find-key c.self.inside.stored are.rising (λ (s : State). s.stack) are.stacks c.args.key.now))));
    }
