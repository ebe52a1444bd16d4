use Rattle.std.proofs.Common.{arith, ◌∙◌, length}
use Rattle.std.proofs.lemmas.List.{take_all}
use Rattle.pfl_reader.proofs.Whole.{cut-last, cut-none, cut-empty}
use Rattle.pfl_reader.proofs.feed.body_len.Goals as goal
use Rattle.pfl_reader.proofs.feed.body_len.Goals.{else-len-gt0-via-then-len-gt0+else-bytes-len-eq-CARRIAGE_RETURN, else-len-gt0-via-else-len-gt0}

pub returns-then-bytes-len-eq-CARRIAGE_RETURN-clause-body :
    goal.returns-then-bytes-len-eq-CARRIAGE_RETURN-clause-body
returns-then-bytes-len-eq-CARRIAGE_RETURN-clause-body c = cut-last c.args.bytes.now c.if-len-gt0.true c.if-bytes-len-eq-CARRIAGE_RETURN.true

pub returns-else-len-gt0-clause-body : goal.returns-else-len-gt0-clause-body
returns-else-len-gt0-clause-body c = take_all (length c.args.bytes.now) c.args.bytes.now (omega arith) ∙ elim c.else-len-gt0.branch [
  | else-len-gt0-via-then-len-gt0+else-bytes-len-eq-CARRIAGE_RETURN w ↦ cut-none c.args.bytes.now w.if-len-gt0.true w.if-bytes-len-eq-CARRIAGE_RETURN.false
  | else-len-gt0-via-else-len-gt0 w ↦ cut-empty c.args.bytes.now (omega arith)
]
