use Rattle.std.proofs.Common.{◌∙◌}
use Rattle.pfl_script.proofs.Lists.{pushed_next}
use Rattle.pfl_script.proofs.listed.push_list.Goals as goal

pub loop-entry-preserved : goal.loop-entry-preserved
loop-entry-preserved g c =
    pushed_next (g.X.Listed.line c.args.node) _ _ _ _ _ c.in-Some.ensures.steps c.in_ok-push_line.ensures ∙ c.loop-entry.invariant
