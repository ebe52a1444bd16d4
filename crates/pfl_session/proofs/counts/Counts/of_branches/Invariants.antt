use Rattle.std.proofs.Common.{◌≡◌, ◌*◌, take}
use Rattle.pfl_session.specs.Totals.{counts_of_branches, AreAtMost}
use Rattle.pfl_session.proofs.counts.Counts.of_branches.Given as goal

-- the branches so far are counted
abbrev pub invariant-loop-branch : goal.invariant-loop-branch
invariant-loop-branch g l = record {
  is : l.counts ≡ counts_of_branches (take l.branch-index l.branches);
  small : AreAtMost (l.branch-index * 8589934592) l.counts;
}
