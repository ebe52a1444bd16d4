use Rattle.std.specs.Prelude.{◌≡◌, ◌+◌, length}
use Rattle.pfl_world.specs.receive.Receiving.{cleared_names}
use Rattle.pfl_reasons.proofs.Clearing.{count_of}
use Rattle.pfl_reasons.proofs.cleared.count_cleared.Given as goal

-- those that were counted and those that are left
abbrev pub invariant-loop-row : goal.invariant-loop-row
invariant-loop-row g l = l.count + count_of l.creator l.bound l.row-iterator ≡ length (cleared_names l.node l.creator l.bound)
