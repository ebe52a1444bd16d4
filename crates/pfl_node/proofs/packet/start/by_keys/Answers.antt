use Rattle.std.proofs.Common.{◌≡◌, None, Some, false, ◌∙◌, ap, subst, sym}
use Rattle.std.specs.Option.{option_copied}
use Rattle.std.specs.Prelude.{is_some, ◌||◌}
use Rattle.pfl_track.specs.Rules.{started_by}
use Rattle.pfl_track.specs.States.{IsState}
use Rattle.pfl_track.specs.Tracking.{start_state}
use Rattle.pfl_receive.specs.table.Tables.{by_stack, by_wire, key_in_use}
use Rattle.pfl_receive.specs.desk.inner.Kept.{MayStart}
use Rattle.pfl_node.proofs.Fated.{new-starts, started-starts}
use Rattle.pfl_node.proofs.packet.start.by_keys.Goals as goal

pub returns-clause-may : goal.returns-clause-may
returns-clause-may g c =
    let n = c.args.parts.now in
    let k = c.args.keys.now in
    let r = c.args.rule.now in
    let on_wire : by_wire n.states k.wire ≡ None =
    (λ i. by_wire (sym c.states-states.ensures.states i) (sym c.wire.ensures.wire i)) ∙ sym c.by_wire.ensures.state ∙ ap option_copied c.in_default.is in
    let on_stack : by_stack n.states k.stack ≡ None =
    (λ i. by_stack (sym c.states-states.ensures.states i) (sym c.stack.ensures i)) ∙ sym c.by_stack.ensures.state ∙ ap option_copied c.in_default-by_stack.is in
    let free : key_in_use n.states k.wire k.stack ≡ false = λ i. is_some (on_wire i) || is_some (on_stack i) in
    let first = c.start_state-started.ensures.state
    ∙ (λ i. start_state (c.next_name.ensures.name i) k.wire k.stack c.args.dir c.args.packet.now (Some c.args.number) r.no_sync (c.clock.ensures.clock i)) in
    let same = c.started_by.ensures.state ∙ (λ i. started_by (c.kernel.ensures.kernel i) (first i)) in
    subst (MayStart n) (sym same)
    (started-starts n n.limits.kernel _ (subst IsState same c.started_by.ensures.known)
    (new-starts n k.wire k.stack c.args.dir c.args.packet.now c.args.number r r.no_sync c.requires.packet c.wire.ensures.keys free
    c.requires.room c.requires.stands))
