use Rattle.std.proofs.Common.{length}
use Rattle.pfl_wire.specs.Frames.{lists}
use Rattle.pfl_node.proofs.Grouped.{IsGrouped}
use Rattle.pfl_node.proofs.flush.frame.groups_of.Given as goal

abbrev pub invariant-loop-first : goal.invariant-loop-first
invariant-loop-first g l = IsGrouped l.parts l.entries l.left (lists l.groups.items)

abbrev pub decreases-loop-first : goal.decreases-loop-first
decreases-loop-first g l = length l.left
