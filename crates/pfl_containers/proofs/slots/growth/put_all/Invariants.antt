use Rattle.std.proofs.Common.{◌≡◌, vec_capacity}
use Rattle.pfl_containers.proofs.SlotSpread.{ArePut}
use Rattle.pfl_containers.proofs.slots.growth.put_all.Given as goal

abbrev pub invariant-loop-word : goal.invariant-loop-word
invariant-loop-word g l = record {
  put : ArePut l.buckets l.words l.spare.items l.initial.spare.items;
  room : vec_capacity l.spare ≡ vec_capacity l.initial.spare;
}

abbrev pub decreases-loop-word : goal.decreases-loop-word
decreases-loop-word g l = goal.left-loop-word g l
