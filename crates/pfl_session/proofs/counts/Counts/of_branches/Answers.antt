use Rattle.std.proofs.Common.{◌≡◌, ◌+◌, ◌*◌, ◌∙◌, ap, take_all, arith}
use Rattle.pfl_base.proofs.ForCallers.{each-get_or}
use Rattle.pfl_session.specs.Totals.{counts_of_branches, HasAtMost}
use Rattle.pfl_session.proofs.Sums.{counts-more, more-at-most}
use Rattle.pfl_session.proofs.counts.Counts.of_branches.Goals as goal

pub of_branch-requires : goal.of_branch-requires
of_branch-requires g c = record {
  few = rw c.branch-item.is
      (each-get_or (HasAtMost 8589934592) c.args.branches.now c.loop-branch.branch-index _ c.requires.few c.loop-branch-test.true);
}

pub loop-branch-preserved : goal.loop-branch-preserved
loop-branch-preserved g c = record {
  is = counts-more _ _ _ _ _ _ c.branch-item.is c.loop-branch-test.true c.plus-counts.ensures c.loop-branch.invariant.is c.of_branch.ensures.counts;
  small =
      let next : (c.loop-branch.branch-index + 1) * 8589934592 ≡ c.loop-branch.branch-index * 8589934592 + 8589934592 = omega arith in
      more-at-most _ _ _ _ _ _ c.plus-counts.ensures next c.loop-branch.invariant.small c.of_branch.ensures.small;
}

pub returns : goal.returns
returns g c = c.loop-branch.invariant.is ∙ ap counts_of_branches (take_all c.loop-branch.branch-index c.args.branches.now c.loop-branch-test.false)
