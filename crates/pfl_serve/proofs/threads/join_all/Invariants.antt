use Rattle.std.proofs.Common.{◌≡◌, ◌+◌, ◌≤◌, ◌++◌, vec_len, vec_capacity}
use Rattle.std.specs.Vec.Iter.{into_iter_items, into_iter_len}
use Rattle.pfl_serve.specs.Seats.{AreServed}
use Rattle.pfl_serve.specs.inner.Promises.{seats_of}
use Rattle.pfl_serve.proofs.threads.join_all.Given as goal

-- the sessions of the threads that were joined are served, and there is room for the others
abbrev pub invariant-loop-handle : goal.invariant-loop-handle
invariant-loop-handle g l = record {
  split : l.yielded ++ into_iter_items l.handle-iterator ≡ l.fn.handles.items;
  served : AreServed g.J.Which g.O.Output g.G.Gate.heard (seats_of l.yielded) l.all.items;
  room : vec_len l.all + into_iter_len l.handle-iterator ≤ vec_capacity l.all;
}
