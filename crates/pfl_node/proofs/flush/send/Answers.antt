use Rattle.std.proofs.Common.{◌≡◌, ◌+◌, ◌*◌, ◌∙◌, ap, length, List, arith}
use Rattle.pfl_receive.specs.queue.declared.Entry.{Entry}
use Rattle.pfl_receive.proofs.ForCallers.desk.{writes-then, writes-more, frame_entries}
use Rattle.pfl_node.proofs.Sent.{flushed-is}
use Rattle.pfl_node.proofs.flush.send.Goals as goal

pub returns-in-Ok-clause-node : goal.returns-in-Ok-clause-node
returns-in-Ok-clause-node g c =
    flushed-is c.args.desk.now.node c.frame_taken.new.desk.node c.clear_announced.new.desk.node c.deref.result.now c.in-Ok.ensures.node
    (c.deref.ensures.value ∙ c.in-Ok.ensures.entries) c.clear_announced.ensures.node

pub returns-in-Ok-clause-writes : goal.returns-in-Ok-clause-writes
returns-in-Ok-clause-writes g c =
    let n = c.args.desk.now.node in
    let k = length (frame_entries n) in
    let es = c.deref.result.now in
    let long : length es ≡ k = ap (λ (xs : List Entry). length xs) (c.deref.ensures.value ∙ c.in-Ok.ensures.entries) in
    writes-more (k + (1 + length es)) (1 + 2 * k) _ _ (omega (arith, long))
    (writes-then k (1 + length es) _ _ _ c.in-Ok.ensures.writes c.clear_announced.ensures.writes)
