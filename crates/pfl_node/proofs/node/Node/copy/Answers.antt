use Rattle.std.proofs.Common.{◌∙◌, ap, sym, subst}
use Rattle.pfl_node.specs.inner.Room.{most_edits}
use Rattle.pfl_receive.specs.desk.Nodes.{Node, IsNode}
use Rattle.pfl_node.proofs.Ready.{most-few}
use Rattle.pfl_node.proofs.node.Node.copy.Goals as goal

pub copy-requires : goal.copy-requires
copy-requires g c =
    let limits = c.limits.ensures.limits ∙ ap (λ (n : Node). n.limits) (c.parts.ensures.parts ∙ sym c.self.view_is) in
    record {
      between = c.self.invariant.1.none;
      room = rw (c.most_edits-room.ensures.most, limits) (most-few c.self.inside.desk.node.limits c.self.invariant.0.parts.limits);
    }

pub invariant_of-result : goal.invariant_of-result
invariant_of-result g c =
    let same = c.in_ok-desk.ensures.same in
    let limits = c.limits.ensures.limits ∙ ap (λ (n : Node). n.limits) (c.parts.ensures.parts ∙ sym c.self.view_is) in (
      subst IsNode (sym same) c.self.invariant.0,
      record {
        none = c.in_ok-desk.ensures.none;
        room = c.in_ok-desk.ensures.room
            ∙ (c.most_edits-room.ensures.most ∙ (ap most_edits limits ∙ ap (λ (n : Node). most_edits n.limits) (sym same)));
      },
    )
