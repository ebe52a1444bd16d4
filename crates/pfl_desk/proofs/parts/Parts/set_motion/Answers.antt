use Rattle.std.specs.Prelude.{None, ◌≡◌}
use Rattle.std.specs.Option.{option_map}
use Rattle.std.proofs.Common.{◌∙◌, ap, sym, subst}
use Rattle.pfl_edits.specs.Maps as maps
use Rattle.pfl_table.specs.Tables.{states_of}
use Rattle.pfl_table.specs.declared.row.Row.{Row}
use Rattle.pfl_table.proofs.ForCallers.{get-states_of}
use Rattle.pfl_desk.specs.Edits.{moved_at}
use Rattle.pfl_desk.specs.inner.Kept.{timeout_by}
use Rattle.pfl_desk.specs.Nodes.{Node, AreParts}
use Rattle.pfl_desk.proofs.Replacing.{moved_none}
use Rattle.pfl_desk.proofs.Stating.{moved-states, moved-timely, whole-with}
use Rattle.pfl_desk.proofs.parts.Parts.set_motion.Goals as goal

pub returns-in_default : goal.returns-in_default
returns-in_default g c =
    let n = c.args.self.now in
    let t = c.self.inside.table in
    let none : maps.get n.states c.args.name ≡ None = ap (λ (m : Node). maps.get m.states c.args.name) (sym c.self.view_is)
    ∙ (get-states_of t c.args.name ∙ ap (option_map (λ (r : Row). r.state)) (sym c.row_at.ensures.row ∙ ap (option_map (λ r. r.1.now)) c.in_default.is)) in
    record { node = moved_none n c.args.name c.args.motion none }

pub invariant_of-self : goal.invariant_of-self
invariant_of-self g c =
    let n = c.args.self.now in
    let t = c.self.inside.table in
    let to = c.args.motion in
    let seconds = c.timeout_after-timeout.result in
    let at = sym (ap (option_map (λ r. r.1.now)) c.in-Some.is) ∙ c.row_at.ensures.row in
    let now = moved-states t c.move_at.new.self c.args.name to seconds c.move_at.ensures.moved
    ∙ ap (λ (m : Node). moved_at m.states c.args.name to) c.self.view_is in (
      moved-timely c.self.inside.limits c.self.inside.rules t c.move_at.new.self c.args.name c.in-Some.row.now to seconds c.self.invariant.0 at
          (c.timeout_after-timeout.ensures.timeout
          ∙ ap (λ (m : Node). timeout_by m.rules (record c.in-Some.row.now.state { class = to.class }))
          (sym c.self.view_is)) c.move_at.ensures.moved,
      subst AreParts (sym (whole-with _ n (states_of c.move_at.new.self) (moved_at n.states c.args.name to) c.self.view_is now)) c.requires.node,
    )

pub returns : goal.returns
returns g c =
    let n = c.args.self.now in
    let to = c.args.motion in
    let now = moved-states c.self.inside.table c.move_at.new.self c.args.name to c.timeout_after-timeout.result c.move_at.ensures.moved
    ∙ ap (λ (m : Node). moved_at m.states c.args.name to) c.self.view_is in
    record { node = whole-with _ n (states_of c.move_at.new.self) (moved_at n.states c.args.name to) c.self.view_is now }
