use Rattle.std.proofs.Common.{rules, ◌≡◌, length, refl, ap, arith}
use Rattle.std.specs.Vec.Iter.{into_iter_items}
use Rattle.pfl_host.proofs.Faults.{ended_all, ended_more}
use Rattle.pfl_host.proofs.Sitting.{back_all, back_more, back_none}
use Rattle.pfl_host.proofs.closing.ends_of.Goals as goal

-- none has ended yet
pub loop-seat-init : goal.loop-seat-init
loop-seat-init g c =
    let all : into_iter_items c.into_iter-seat-iterator.result ≡ c.args.ended.items = search rules in
    record {
      fault = rw all refl;
      browsers = omega (arith, ap length all);
      back = rw (all, c.requires.none) (back_none g.I.Input c.args.ended.items);
      room = search rules;
    }

-- one more has ended
pub loop-seat-preserved : goal.loop-seat-preserved
loop-seat-preserved g c = record {
  fault = rw (c.first_of-fault.ensures, c.end_of-end.ensures.result)
      (ended_more c.loop-seat.fault c.in-Some.seat (into_iter_items c.next.new.self) _ (rw c.in-Some.ensures.steps.0 at c.loop-seat.invariant.fault));
  browsers = omega (arith, c.counted-browsers.ensures, c.loop-seat.invariant.browsers, ap length c.in-Some.ensures.steps.0);
  back = rw c.push_reserved.ensures.items
      (back_more g.I.Input _ _ _ _ _ (rw c.in-Some.ensures.steps.0 at c.loop-seat.invariant.back) c.end_of-end.ensures.back);
  room = search rules;
}

-- all have ended
pub returns-clause-fault : goal.returns-clause-fault
returns-clause-fault g c =
    let none : length (into_iter_items c.loop-seat.seat-iterator) ≡ 0 = omega (arith, c.in-None.ensures.steps.0, c.loop-seat.seat-iterator.rest.ok.0) in
    ended_all _ _ _ none c.loop-seat.invariant.fault

pub returns-clause-back : goal.returns-clause-back
returns-clause-back g c =
    let none : length (into_iter_items c.loop-seat.seat-iterator) ≡ 0 = omega (arith, c.in-None.ensures.steps.0, c.loop-seat.seat-iterator.rest.ok.0) in
    back_all g.I.Input _ _ _ c.loop-seat.invariant.back none
