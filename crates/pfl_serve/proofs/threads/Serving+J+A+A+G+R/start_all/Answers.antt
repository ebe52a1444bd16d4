use Rattle.std.proofs.Common.{arith, inl, inr}
use Rattle.pfl_serve.proofs.ServedSeats.{taken-more, taken-all}
use Rattle.pfl_serve.proofs.threads.Serving+J+A+A+G+R.start_all.Goals as goal

pub loop-seat-preserved-in-Some-start : goal.loop-seat-preserved-in-Some-start
loop-seat-preserved-in-Some-start g c =
    let was = c.loop-seat.invariant in
    let steps = c.in-Some.ensures.steps in
    record {
      lab = (rw steps.0 at was.lab).1;
      split = elim was.split [
        | inl refused ↦ inl refused
        | inr split ↦ inr (rw c.push_reserved.ensures.items
            (taken-more (λ h. h.promise.seat.value) c.loop-seat.handles.items c.in-Some-start.handle c.in-Some.seat _ _
            c.in-Some-start.ensures.promise (rw steps.0 at split)))
      ];
      room = omega (arith, steps.1);
      short = λ refused. let fewer = was.short refused in omega (arith, steps.1, fewer);
      few = omega (arith, steps.1);
    }

pub returns-clause-started : goal.returns-clause-started
returns-clause-started g c =
    elim c.loop-seat.invariant.split [
      | inl refused ↦ inl refused
      | inr split ↦ inr (taken-all _ _ _ (omega (arith, c.in-None.ensures.steps.0, c.loop-seat.seat-iterator.rest.ok.0)) split)
    ]

pub returns-clause-refused : goal.returns-clause-refused
returns-clause-refused g c = λ refused. let fewer = c.loop-seat.invariant.short refused in omega (arith, fewer)
