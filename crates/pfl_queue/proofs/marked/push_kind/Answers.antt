use Rattle.std.proofs.Common.{subst, arith}
use Rattle.pfl_queue.proofs.Turned.{Walked, walk-next, walk-on}
use Rattle.pfl_queue.proofs.marked.push_kind.Goals as goal

pub loop-next-preserved : goal.loop-next-preserved
loop-next-preserved g c =
    let queues = c.args.queues.now in
    let old = c.args.marks.now.items in
    let now = c.loop-next.marks.items in
    let walked = subst (Walked queues c.args.kind c.args.most old now) c.in-Some.is c.loop-next.invariant in
    let next = walk-next queues c.args.kind c.args.most old now c.in-Some.slot c.requires.kind walked in
    walk-on queues c.args.kind c.args.most old now c.in-Some.slot next (omega (arith, c.loop-next-test.true, c.len.ensures, c.loop-next.marks.ok.0))
    c.value.result (c.value.ensures.value next.at) c.push.new.self.items c.in_ok-push.ensures.items c.next-next.result (c.next-next.ensures.next next.at)
