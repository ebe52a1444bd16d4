use Rattle.std.proofs.Common.{add-one, arith}
use Rattle.pfl_queue.proofs.Turned.{kinds_next}
use Rattle.pfl_queue.proofs.marked.push_kinds.Goals as goal

pub loop-kind-preserved : goal.loop-kind-preserved
loop-kind-preserved g c =
    rw add-one (kinds_next c.args.queues.now.lists c.args.most c.loop-kind.kind c.loop-kind.marks.items c.push_kind.new.marks.items
    (omega (arith, c.loop-kind-test.true, c.requires.five)) c.loop-kind.invariant c.in_ok-push_kind.ensures.pushed)
