use Rattle.std.proofs.Common.{◌≡◌, None, Some, ◌∙◌, ap, sym, subst}
use Rattle.std.proofs.Common.{arith}
use Rattle.std.specs.Option.{option_map_or}
use Rattle.pfl_edits.specs.Maps as maps
use Rattle.pfl_track.specs.declared.state.State.{State}
use Rattle.pfl_table.specs.Tables.{States}
use Rattle.pfl_desk.specs.Changes.{put_state}
use Rattle.pfl_desk.specs.Nodes.{Node, AreParts}
use Rattle.pfl_desk.proofs.Deferred.{stands-may}
use Rattle.pfl_desk.proofs.Telling.{updates-may}
use Rattle.pfl_desk.proofs.desk.Desk.clear_updates.Goals as goal

abbrev cleared : Node → State → Node
cleared n s = put_state n (record s { updates = 0 })

pub returns-in_default-clause-node : goal.returns-in_default-clause-node
returns-in_default-clause-node g c =
    let n = c.args.self.now.node in
    let at : maps.get n.states c.args.name ≡ None = ap (λ (m : Node). maps.get m.states c.args.name) (sym c.parts.ensures.parts)
    ∙ (ap (λ (m : States). maps.get m c.args.name) (sym c.states.ensures.states) ∙ (sym c.by_name.ensures.state ∙ (sym c.copied.ensures ∙ c.in_default.is))) in
    sym (ap (λ o. option_map_or (cleared n) o n) at)

pub replace_state-requires-clause-may : goal.replace_state-requires-clause-may
replace_state-requires-clause-may g c =
    let n = c.args.self.now.node in
    let s = c.in-Some.state in
    let at : maps.get n.states c.args.name ≡ Some s = ap (λ (m : Node). maps.get m.states c.args.name) (sym c.parts.ensures.parts)
    ∙ (ap (λ (m : States). maps.get m c.args.name) (sym c.states.ensures.states) ∙ (sym c.by_name.ensures.state ∙ (sym c.copied.ensures ∙ c.in-Some.is))) in
    let is = subst AreParts c.parts.ensures.parts c.states.ensures.parts in
    rw c.with_updates.ensures (updates-may n s 0 (omega arith) (stands-may n c.args.name s is at))

pub returns-clause-node : goal.returns-clause-node
returns-clause-node g c =
    let n = c.args.self.now.node in
    let s = c.in-Some.state in
    let at : maps.get n.states c.args.name ≡ Some s = ap (λ (m : Node). maps.get m.states c.args.name) (sym c.parts.ensures.parts)
    ∙ (ap (λ (m : States). maps.get m c.args.name) (sym c.states.ensures.states) ∙ (sym c.by_name.ensures.state ∙ (sym c.copied.ensures ∙ c.in-Some.is))) in
    c.replace_state.ensures.node ∙ (ap (put_state n) c.with_updates.ensures ∙ sym (ap (λ o. option_map_or (cleared n) o n) at))
