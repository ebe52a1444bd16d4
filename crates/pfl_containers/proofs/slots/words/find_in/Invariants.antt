use Rattle.std.proofs.Common.{false}
use Rattle.pfl_containers.specs.inner.SlotWords.{ArePassed}
use Rattle.pfl_containers.proofs.slots.words.find_in.Given as goal

abbrev pub invariant-loop-place : goal.invariant-loop-place
invariant-loop-place g l = ArePassed (λ slot. goal.F-post g l.is_it slot false) l.words l.tag l.home l.place
