use Rattle.std.proofs.Common.{ap}
use Rattle.pfl_queue.specs.declared.marks.Turn.{Turn}
use Rattle.pfl_queue.proofs.Marking.{kind-within, put-turn, put-below}
use Rattle.pfl_queue.proofs.marked.put_in_order.Goals as goal

pub returns : goal.returns
returns g c =
    let queues = c.args.queues.now in
    let order = c.args.order.now in
    let turn = c.of-turn.result in
    let slot = c.insert_after-slot.result in
    let gap = c.place_of-previous.ensures.gap in
    let put = c.insert_after-slot.ensures.inserted (record { front = gap.front; back = gap.back; split = gap.split; ends = gap.ends }) in
    let done = put-turn queues _ order c.requires.ordered c.args.mark turn c.of-turn.ensures.turn c.place_of-previous.result gap slot put in
    let within = kind-within queues order c.requires.ordered c.args.mark.kind turn.kind (ap (λ (t : Turn). t.kind) c.of-turn.ensures.turn) in
    record {
      inserted = done.0;
      others = done.1;
      fresh = c.insert_after-slot.ensures.fresh;
      below = put-below queues _ turn.kind gap.front gap.back slot c.args.mark c.known.ensures.lists within put;
    }
