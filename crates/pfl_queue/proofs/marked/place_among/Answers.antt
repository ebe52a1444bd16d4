use Rattle.pfl_queue.proofs.Sought.{next-in, other-in, none-in}
use Rattle.pfl_queue.proofs.marked.place_among.Goals as goal

pub previous-requires : goal.previous-requires
previous-requires g c =
    let next = next-in c.args.queues.now c.args.order.now c.requires.ordered c.known.ensures.entries.sorted c.args.turn c.requires.kind
    c.requires.new c.after.result c.after.ensures.next (c.in-Some.above, c.in-Some.next) c.in-Some.is c.if-above-turn.true in
    record { stands = next.at }

pub returns-then-above-turn : goal.returns-then-above-turn
returns-then-above-turn g c =
    let next = next-in c.args.queues.now c.args.order.now c.requires.ordered c.known.ensures.entries.sorted c.args.turn c.requires.kind
    c.requires.new c.after.result c.after.ensures.next (c.in-Some.above, c.in-Some.next) c.in-Some.is c.if-above-turn.true in
    record { gap = next.gap c.previous.result (c.previous.ensures.previous next.at) }

pub returns-else-above-turn : goal.returns-else-above-turn
returns-else-above-turn g c =
    record {
      gap = other-in c.args.queues.now c.args.order.now c.requires.ordered c.known.ensures.entries.sorted c.args.turn
          c.requires.kind c.requires.new c.after.result c.after.ensures.next
          (c.in-Some.above, c.in-Some.next) c.in-Some.is c.if-above-turn.false c.last.result c.last.ensures.last;
    }

pub returns-in-None : goal.returns-in-None
returns-in-None g c = record {
  gap = none-in c.args.queues.now c.args.order.now c.requires.ordered c.known.ensures.entries.sorted
      c.args.turn c.requires.kind c.requires.new c.after.result c.after.ensures.next c.in-None.is c.last-in-None.result c.last-in-None.ensures.last;
}
