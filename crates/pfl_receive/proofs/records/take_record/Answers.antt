use Rattle.std.proofs.Common.{◌∙◌, ap, arith}
use Rattle.std.specs.Prelude.{◌≡◌, ◌+◌, ◌*◌, true, OnErr, OnOk}
use Rattle.pfl_desk.proofs.ForCallers.{writes-more}
use Rattle.pfl_desk.specs.Nodes.{Node, is_overfull}
use Rattle.pfl_receive.specs.inner.Deciding.{cleared_in, done_edits}
use Rattle.pfl_receive.specs.inner.Delivering.{paid_edits}
use Rattle.pfl_receive.specs.Delivering.{cleared_by}
use Rattle.pfl_receive.specs.Receiving.{decided}
use Rattle.pfl_receive.proofs.Paying.{clears, paid-most, pays}
use Rattle.pfl_receive.proofs.Resting.{taken-so}
use Rattle.pfl_receive.proofs.records.take_record.Goals as goal

pub returns-clause-full : goal.returns-clause-full
returns-clause-full g c = taken-so (λ (m : Node). OnErr c.carry_out.result (is_overfull m ≡ true)) _ _ _ _ _
    c.decide-decision.ensures.decided c.parts.ensures.parts c.carry_out.ensures.full

pub returns-clause-node : goal.returns-clause-node
returns-clause-node g c = taken-so (λ (m : Node). OnOk c.carry_out.result (c.carry_out.new.desk.node ≡ m)) _ _ _ _ _
    c.decide-decision.ensures.decided c.parts.ensures.parts c.carry_out.ensures.node

pub returns-clause-paid : goal.returns-clause-paid
returns-clause-paid g c =
    let n = c.parts.result.now in
    let same = ap done_edits c.decide-decision.ensures.decided in
    let less = pays n c.args.same_rules c.args.message.now in
    paid-most c.carry_out.result (done_edits c.decide-decision.result) (paid_edits c.args.message.now) c.args.desk.now c.carry_out.new.desk (omega (arith, same, less)) c.carry_out.ensures.paid

pub returns-clause-writes : goal.returns-clause-writes
returns-clause-writes g c =
    let n = c.args.desk.now.node in
    let b = c.args.same_rules in
    let m = c.args.message.now in
    let is = c.decide-decision.ensures.decided ∙ ap (λ (k : Node). decided k b m) c.parts.ensures.parts in
    let same = ap (cleared_in n) is ∙ clears n b m in
    writes-more _ (8 + 4 * cleared_by n m) _ _ (omega (arith, same)) c.carry_out.ensures.writes
