use Rattle.std.proofs.Common.{◌≡◌, length, arith}
use Rattle.std.proofs.lemmas.List.{append_assoc, map-append}
use Rattle.std.specs.Vec.Iter.{into_iter_items}
use Rattle.pfl_serve.specs.inner.Promises.{seats_of}
use Rattle.pfl_serve.proofs.ServedSeats.{AreServed-push, taken-all}
use Rattle.pfl_serve.proofs.threads.join_all.Goals as goal

pub loop-handle-preserved : goal.loop-handle-preserved
loop-handle-preserved g c =
    let was = c.loop-handle.invariant in
    let steps = c.in-Some.ensures.steps in
    let seat = c.in-Some.handle.promise.seat.value in
    let heard = g.G.Gate.heard in
    let seats = seats_of c.loop-handle.yielded in
    let served = AreServed-push g.J.Which g.O.Output heard seats c.loop-handle.all.items seat c.join.result was.served c.join.ensures in
    record {
      split = rw append_assoc (rw steps.0 at was.split);
      served = rw (c.push_reserved.ensures.items, map-append) served;
      room = omega (arith, steps.1);
    }

-- all were joined
pub returns : goal.returns
returns g c =
    let none : length (into_iter_items c.loop-handle.handle-iterator) ≡ 0 =
    omega (arith, c.in-None.ensures.steps.0, c.loop-handle.handle-iterator.rest.ok.0) in
    let all : c.loop-handle.yielded ≡ c.args.handles.items = taken-all _ _ _ none c.loop-handle.invariant.split in
    rw (← all) c.loop-handle.invariant.served
