use Rattle.std.proofs.Common.{◌≡◌, ◌+◌, ◌<◌, ◌≤◌, ◌++◌, ◌⊎◌, IsTrue, vec_len, vec_capacity}
use Rattle.std.specs.List.{AllByRecursion}
use Rattle.std.specs.Vec.Iter.{into_iter_items, into_iter_len}
use Rattle.pfl_session.specs.Passes.{IsPassOf}
use Rattle.pfl_serve.specs.inner.Promises.{seats_of}
use Rattle.pfl_serve.proofs.threads.Serving+J+A+A+G+R.start_all.Given as goal

-- a thread was refused, and there are fewer than seats; or there is one for each seat so far
abbrev pub invariant-loop-seat : goal.invariant-loop-seat
invariant-loop-seat g l = record {
  lab : AllByRecursion (λ s. IsPassOf g.J.Which.publisher g.J.Which.tallies s.pass) (into_iter_items l.seat-iterator);
  split : IsTrue l.refused ⊎ (seats_of l.handles.items ++ into_iter_items l.seat-iterator ≡ l.fn.seats.items);
  room : vec_len l.handles + into_iter_len l.seat-iterator ≤ vec_capacity l.handles;
  short : IsTrue l.refused → vec_len l.handles + into_iter_len l.seat-iterator < vec_len l.fn.seats;
  few : vec_len l.handles + into_iter_len l.seat-iterator ≤ vec_len l.fn.seats;
}
