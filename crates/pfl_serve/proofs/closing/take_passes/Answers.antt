use Rattle.std.proofs.Common.{◌≡◌, length, arith}
use Rattle.std.specs.Vec.Iter.{into_iter_items}
use Rattle.pfl_serve.specs.Services.{ended_seat, pass_of}
use Rattle.pfl_serve.proofs.EndedSeats.{mapped-more, mapped-all}
use Rattle.pfl_serve.proofs.closing.take_passes.Goals as goal

-- one more seat
pub loop-one-preserved : goal.loop-one-preserved
loop-one-preserved g c =
    let was = c.loop-one.invariant in
    let steps = c.in-Some.ensures.steps in
    record {
      passes = rw c.push_reserved.ensures.items (mapped-more pass_of c.loop-one.passes.items c.in-Some.one _ _ (rw steps.0 at was.passes));
      ended = rw c.push_reserved-in-loop-one.ensures.items (mapped-more ended_seat c.loop-one.ended.items c.in-Some.one _ _ (rw steps.0 at was.ended));
      room = omega (arith, steps.1);
      room_ended = omega (arith, steps.1);
    }

-- the end
pub returns-clause-passes : goal.returns-clause-passes
returns-clause-passes g c =
    let none : length (into_iter_items c.loop-one.one-iterator) ≡ 0 = omega (arith, c.in-None.ensures.steps.0, c.loop-one.one-iterator.rest.ok.0) in
    mapped-all _ _ _ _ none c.loop-one.invariant.passes

pub returns-clause-ended : goal.returns-clause-ended
returns-clause-ended g c =
    let none : length (into_iter_items c.loop-one.one-iterator) ≡ 0 = omega (arith, c.in-None.ensures.steps.0, c.loop-one.one-iterator.rest.ok.0) in
    mapped-all _ _ _ _ none c.loop-one.invariant.ended
