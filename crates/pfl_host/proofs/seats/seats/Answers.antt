use Rattle.std.proofs.Common.{rules, arith, ◌≡◌, ◌∷◌, [], length}
use Rattle.std.specs.Vec.Iter.{into_iter_items}
use Rattle.pfl_host.proofs.Sitting.{mapped_more, none_left, seated_all, seated_more, seated_none}
use Rattle.pfl_host.proofs.seats.seats.Goals as goal

-- nobody sits yet
pub loop-pass-init : goal.loop-pass-init
loop-pass-init g c =
    let all : into_iter_items c.into_iter-connections.result ≡ c.args.given.items = search rules in
    record {
      split = search rules;
      over = rw (all, c.in-Ok.ensures.items) (seated_none g.I.Input.left g.O.Output c.args.given.items);
      unfailed = rw all c.requires.unfailed;
      room = search rules;
      many = search rules;
    }

-- one seat more
pub loop-pass-preserved : goal.loop-pass-preserved
loop-pass-preserved g c =
    let rest : into_iter_items c.loop-pass.connections ≡ c.in-Some-next.sides ∷ into_iter_items c.next-in-loop-pass.new.self = search rules in
    record {
      split = rw c.push_reserved.ensures.items (mapped_more (λ s. s.pass) _ _ _ _ _ (rw c.in-Some.ensures.steps.0 at c.loop-pass.invariant.split)
          c.seat_of.ensures.pass);
      over = rw c.push_reserved.ensures.items (seated_more g.I.Input.left g.O.Output _ _ _ _ _ (rw rest at c.loop-pass.invariant.over)
          c.seat_of.ensures.over);
      unfailed = (rw rest at c.loop-pass.invariant.unfailed).1;
      room = search rules;
      many = search rules;
    }

-- all have seats
pub returns-clause-passes : goal.returns-clause-passes
returns-clause-passes g c =
    let none : length (into_iter_items c.loop-pass.pass-iterator) ≡ 0 = omega (arith, c.in-None.ensures.steps.0, c.loop-pass.pass-iterator.rest.ok.0) in
    none_left _ _ _ c.loop-pass.invariant.split none

pub returns-clause-over : goal.returns-clause-over
returns-clause-over g c =
    let none : length (into_iter_items c.loop-pass.connections) ≡ 0 =
    omega (arith, c.in-None.ensures.steps.0, c.loop-pass.pass-iterator.rest.ok.0, c.loop-pass.connections.rest.ok.0, c.loop-pass.invariant.many) in
    seated_all g.I.Input.left g.O.Output _ _ _ c.loop-pass.invariant.over none
