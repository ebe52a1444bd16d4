use Rattle.std.proofs.Common.{◌≡◌, ◌≤◌, ◌∙◌, ap, sym, subst, arith, List, length}
use Rattle.pfl_language.specs.declared.limits.Limits.{Limits}
use Rattle.pfl_language.specs.Limits.{AreLimits}
use Rattle.pfl_node.specs.inner.Room.{most_edits}
use Rattle.pfl_receive.specs.desk.declared.edit.NodeEdit.{NodeEdit}
use Rattle.pfl_receive.specs.desk.Nodes.{Node, AreParts, is_overcounted}
use Rattle.pfl_node.proofs.Anew.{asks-as, anew-is, anew-counts, anew-limits}
use Rattle.pfl_node.proofs.Ready.{most-few}
use Rattle.pfl_node.proofs.node.Node.restart.Goals as goal

pub new-requires : goal.new-requires
new-requires g c =
    let are : AreLimits c.args.self.now.limits = subst (λ (n : Node). AreLimits n.limits) c.self.view_is c.self.invariant.0.parts.limits in
    let limits : AreLimits c.limits-limits.result = subst (λ (l : Limits). AreLimits l) (sym (c.limits-limits.ensures.limits ∙ ap (λ (n : Node). n.limits) c.parts-parts.ensures.parts)) are in
    record { limits = limits; room = rw c.most_edits-room.ensures.most (most-few c.limits-limits.result limits) }

pub ask_first-requires : goal.ask_first-requires
ask_first-requires g c =
    let is = subst AreParts (c.self.view_is ∙ sym c.parts-parts.ensures.parts) c.self.invariant.0.parts in
    let fresh : c.in_ok-desk.desk.node.clock ≡ 0 = ap (λ (n : Node). n.clock) c.in_ok-desk.ensures.new in
    let least : 1 ≤ c.parts-parts.result.now.limits.queue = is.limits.1.0.0 in
    let room = c.in_ok-desk.ensures.room in
    let most = c.most_edits-room.ensures.most in
    record {
      room = omega (arith, room, most);
      later = omega (arith, fresh);
      within = c.clock.ensures.within;
      free = asks-as _ c.limits-limits.result _ c.args.boot c.clock.result c.in_ok-desk.ensures.new
          (subst (λ (l : Limits). 1 ≤ l.queue) (sym c.limits-limits.ensures.limits) least);
    }

pub give_up_edits-requires : goal.give_up_edits-requires
give_up_edits-requires g c =
    let limits = c.limits-limits.ensures.limits ∙ ap (λ (n : Node). n.limits) c.parts-parts.ensures.parts in
    let is = anew-is c.args.self.now c.in_ok-desk.desk.node _ c.limits-limits.result _ c.args.boot c.clock.result c.in_ok-desk.ensures.new limits
    (c.in_ok-rules.ensures.same ∙ c.rules.ensures.rules ∙ ap (λ (n : Node). n.rules) c.parts-parts.ensures.parts) (c.clock.ensures.clock ∙ ap (λ (n : Node). n.clock) c.parts-parts.ensures.parts) c.ask_first.ensures.node in
    record { counted = ap is_overcounted is ∙ anew-counts c.args.self.now c.args.boot }

pub invariant_of-result : goal.invariant_of-result
invariant_of-result g c =
    let limits = c.limits-limits.ensures.limits ∙ ap (λ (n : Node). n.limits) c.parts-parts.ensures.parts in
    let is = anew-is c.args.self.now c.in_ok-desk.desk.node _ c.limits-limits.result _ c.args.boot c.clock.result c.in_ok-desk.ensures.new limits
    (c.in_ok-rules.ensures.same ∙ c.rules.ensures.rules ∙ ap (λ (n : Node). n.rules) c.parts-parts.ensures.parts) (c.clock.ensures.clock ∙ ap (λ (n : Node). n.clock) c.parts-parts.ensures.parts)
    (c.give_up_edits.ensures.node ∙ c.ask_first.ensures.node) in
    let none = ap (λ (es : List NodeEdit). length es) c.in_ok-desk.ensures.none in
    let given = c.give_up_edits.ensures.room in
    let kept = c.ask_first.ensures.writes.room in
    let room : c.give_up_edits.new.self.edits.spare ≡ c.most_edits-room.result = omega (arith, given, kept, none, c.in_ok-desk.ensures.room) in (
      record {
        parts = subst AreParts (sym c.give_up_edits.ensures.node) c.ask_first.ensures.parts;
        counted = ap is_overcounted is
            ∙ anew-counts c.args.self.now c.args.boot;
      },
      record {
        none = c.give_up_edits.ensures.none;
        room = room ∙ (c.most_edits-room.ensures.most
            ∙ ap most_edits (limits ∙ sym (ap (λ (n : Node). n.limits) is ∙ anew-limits c.args.self.now c.args.boot)));
      },
    )

pub returns : goal.returns
returns g c =
    let limits = c.limits-limits.ensures.limits ∙ ap (λ (n : Node). n.limits) c.parts-parts.ensures.parts in
    record {
      restarted = anew-is c.args.self.now c.in_ok-desk.desk.node _ c.limits-limits.result _ c.args.boot c.clock.result c.in_ok-desk.ensures.new limits
          (c.in_ok-rules.ensures.same ∙ c.rules.ensures.rules ∙ ap (λ (n : Node). n.rules) c.parts-parts.ensures.parts) (c.clock.ensures.clock ∙ ap (λ (n : Node). n.clock) c.parts-parts.ensures.parts)
          (c.give_up_edits.ensures.node ∙ c.ask_first.ensures.node);
    }
