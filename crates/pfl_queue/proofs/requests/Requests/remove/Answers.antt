use Rattle.std.proofs.Common.{◌<◌, length, refl, arith}
use Rattle.pfl_queue.proofs.Asking.{asked-less}
use Rattle.pfl_queue.proofs.requests.Requests.remove.Goals as goal

pub invariant_of-self : goal.invariant_of-self
invariant_of-self g c =
    let listed = c.self.inside.listed.items in
    let within : c.args.position < length listed = omega (arith, c.in-Some.ensures.variant.0 refl, c.self.inside.listed.ok.0) in
    record {
      index = rw (c.in-Some.ensures.items, c.remove-in-Some.ensures.map, c.in-Some.ensures.value)
          (asked-less listed c.args.position c.in-Some.name _ within c.self.invariant.index);
      room = omega (arith, c.self.invariant.room, c.remove-in-Some.ensures.limit, c.remove.ensures.capacity);
    }
