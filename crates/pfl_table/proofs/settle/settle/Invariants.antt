use Rattle.pfl_containers.specs.Lists.{links_of}
use Rattle.pfl_table.specs.inner.Dues.{AreDues}
use Rattle.pfl_table.proofs.Dues.{lag}
use Rattle.pfl_table.proofs.settle.settle.Given as goal

abbrev pub invariant-loop-slot : goal.invariant-loop-slot
invariant-loop-slot g l = AreDues l.rows.limit (links_of l.rows 0) l.expiries

abbrev pub decreases-loop-slot : goal.decreases-loop-slot
decreases-loop-slot g l = lag l.expiries.filed (links_of l.rows 0)
