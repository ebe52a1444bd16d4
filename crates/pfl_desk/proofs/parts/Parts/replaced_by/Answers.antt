use Rattle.std.specs.Prelude.{Some, ◌≡◌}
use Rattle.std.specs.Option.{option_map}
use Rattle.std.proofs.Common.{◌∙◌, ap, sym, subst}
use Rattle.pfl_edits.specs.Maps as maps
use Rattle.pfl_edits.proofs.ForCallers.{some_is_none}
use Rattle.pfl_table.specs.declared.row.Row.{Row}
use Rattle.pfl_table.proofs.ForCallers.{get-states_of}
use Rattle.pfl_track.specs.declared.state.State.{State}
use Rattle.pfl_desk.specs.Nodes.{Node, AreParts}
use Rattle.pfl_desk.proofs.Replacing.{replaced-same, replaced-edit}
use Rattle.pfl_desk.proofs.Putting.{inner}
use Rattle.pfl_desk.proofs.parts.Parts.replaced_by.Goals as goal

pub unreachable-requires : goal.unreachable-requires
unreachable-requires g c =
    let t = c.self.inside.table in
    let s = c.args.state.now in
    let none = ap (maps.get t.rows) (sym c.name.ensures) ∙ (sym c.row_at.ensures.row ∙ ap (option_map (λ r. r.1.now)) c.in_default.is) in
    some_is_none c.requires.may.former (sym c.requires.may.stands
    ∙ (ap (λ (m : Node). maps.get m.states s.name) (sym c.self.view_is) ∙ (get-states_of t s.name ∙ ap (option_map (λ (r : Row). r.state)) none)))

pub replacement-requires-clause-name : goal.replacement-requires-clause-name
replacement-requires-clause-name g c =
    let n = c.args.self.now in
    let t = c.self.inside.table in
    let s = c.args.state.now in
    let at : Some c.in-Some.row.now ≡ maps.get t.rows s.name = sym (ap (option_map (λ r. r.1.now)) c.in-Some.is)
    ∙ (c.row_at.ensures.row ∙ ap (maps.get t.rows) c.name.ensures) in
    let there : maps.get n.states s.name ≡ Some c.in-Some.row.now.state = ap (λ (m : Node). maps.get m.states s.name) (sym c.self.view_is)
    ∙ (get-states_of t s.name ∙ ap (option_map (λ (r : Row). r.state)) (sym at)) in
    sym ((subst AreParts c.self.view_is c.self.invariant.1).states.filed s.name c.in-Some.row.now.state there)

pub replacement-requires-clause-wire : goal.replacement-requires-clause-wire
replacement-requires-clause-wire g c =
    let n = c.args.self.now in
    let t = c.self.inside.table in
    let s = c.args.state.now in
    let at : Some c.in-Some.row.now ≡ maps.get t.rows s.name = sym (ap (option_map (λ r. r.1.now)) c.in-Some.is)
    ∙ (c.row_at.ensures.row ∙ ap (maps.get t.rows) c.name.ensures) in
    let there : maps.get n.states s.name ≡ Some c.in-Some.row.now.state = ap (λ (m : Node). maps.get m.states s.name) (sym c.self.view_is)
    ∙ (get-states_of t s.name ∙ ap (option_map (λ (r : Row). r.state)) (sym at)) in
    c.requires.may.wire ∙ ap (λ (f : State). f.wire) (inner c.requires.may.former c.in-Some.row.now.state (sym c.requires.may.stands ∙ there))

pub replacement-requires-clause-stack : goal.replacement-requires-clause-stack
replacement-requires-clause-stack g c =
    let n = c.args.self.now in
    let t = c.self.inside.table in
    let s = c.args.state.now in
    let at : Some c.in-Some.row.now ≡ maps.get t.rows s.name = sym (ap (option_map (λ r. r.1.now)) c.in-Some.is)
    ∙ (c.row_at.ensures.row ∙ ap (maps.get t.rows) c.name.ensures) in
    let there : maps.get n.states s.name ≡ Some c.in-Some.row.now.state = ap (λ (m : Node). maps.get m.states s.name) (sym c.self.view_is)
    ∙ (get-states_of t s.name ∙ ap (option_map (λ (r : Row). r.state)) (sym at)) in
    c.requires.may.stack ∙ ap (λ (f : State). f.stack) (inner c.requires.may.former c.in-Some.row.now.state (sym c.requires.may.stands ∙ there))

pub returns-clause-same : goal.returns-clause-same
returns-clause-same g c =
    let n = c.args.self.now in
    let t = c.self.inside.table in
    let s = c.args.state.now in
    let at : Some c.in-Some.row.now ≡ maps.get t.rows s.name = sym (ap (option_map (λ r. r.1.now)) c.in-Some.is)
    ∙ (c.row_at.ensures.row ∙ ap (maps.get t.rows) c.name.ensures) in
    let there : maps.get n.states s.name ≡ Some c.in-Some.row.now.state = ap (λ (m : Node). maps.get m.states s.name) (sym c.self.view_is)
    ∙ (get-states_of t s.name ∙ ap (option_map (λ (r : Row). r.state)) (sym at)) in
    replaced-same n c.in-Some.row.now.state s c.replacement.result there c.replacement.ensures

pub returns-clause-replaced : goal.returns-clause-replaced
returns-clause-replaced g c =
    let n = c.args.self.now in
    let t = c.self.inside.table in
    let s = c.args.state.now in
    let at : Some c.in-Some.row.now ≡ maps.get t.rows s.name = sym (ap (option_map (λ r. r.1.now)) c.in-Some.is)
    ∙ (c.row_at.ensures.row ∙ ap (maps.get t.rows) c.name.ensures) in
    let there : maps.get n.states s.name ≡ Some c.in-Some.row.now.state = ap (λ (m : Node). maps.get m.states s.name) (sym c.self.view_is)
    ∙ (get-states_of t s.name ∙ ap (option_map (λ (r : Row). r.state)) (sym at)) in
    replaced-edit n c.in-Some.row.now.state s c.replacement.result there c.replacement.ensures
