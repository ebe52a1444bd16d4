use Rattle.pfl_script.specs.Reasons.{record_line}
use Rattle.pfl_script.proofs.Lists.{pushed_more}
use Rattle.pfl_script.proofs.explained.push_records.Goals as goal

pub loop-record-preserved : goal.loop-record-preserved
loop-record-preserved g c = pushed_more record_line _ _ _ _ _ _ _ c.loop-record.invariant c.in_ok-push_shown.ensures c.record-item.is c.loop-record-test.true
