use Rattle.std.proofs.Common.{◌∙◌, ap, sym, arith}
use Rattle.pfl_node.specs.inner.Room.{most_edits}
use Rattle.pfl_receive.specs.desk.Nodes.{Node, is_overcounted}
use Rattle.pfl_receive.proofs.ForCallers.desk.{new_node-counts}
use Rattle.pfl_node.proofs.Ready.{most-few}
use Rattle.pfl_node.proofs.node.Node.new_at.Goals as goal

pub new-requires : goal.new-requires
new-requires g c = record { limits = c.requires.limits; room = rw c.most_edits-room.ensures.most (most-few c.args.limits c.requires.limits) }

pub invariant_of-result : goal.invariant_of-result
invariant_of-result g c = (
  record {
    parts = c.in_ok-desk.ensures.parts;
    counted = ap is_overcounted c.in_ok-desk.ensures.new
        ∙ new_node-counts c.args.limits c.args.rules c.args.creator c.args.next 0 (omega arith);
  },
  record {
    none = c.in_ok-desk.ensures.none;
    room = c.in_ok-desk.ensures.room ∙ (c.most_edits-room.ensures.most ∙ ap (λ (n : Node). most_edits n.limits) (sym c.in_ok-desk.ensures.new));
  },
)
