use Rattle.std.proofs.Common.{◌≡◌, ◌+◌, ◌≤◌, ◌++◌, length, map, vec_len, vec_capacity}
use Rattle.std.specs.Vec.Iter.{into_iter_items, into_iter_len}
use Rattle.pfl_host.specs.Servers.{AreUnfailed}
use Rattle.pfl_host.proofs.Sitting.{SeatedSoFar}
use Rattle.pfl_host.proofs.seats.seats.Given as goal

-- the passes so far have seats over the first connections, and there are connections and room for the others
abbrev pub invariant-loop-pass : goal.invariant-loop-pass
invariant-loop-pass g l = record {
  split : map (λ s. s.pass) l.seats.items ++ into_iter_items l.pass-iterator ≡ l.fn.passes.items;
  over : SeatedSoFar g.I.Input.left g.O.Output l.fn.given.items (into_iter_items l.connections) l.seats.items;
  unfailed : AreUnfailed g.I.Input.has_failed g.O.Output.has_failed (into_iter_items l.connections);
  room : vec_len l.seats + into_iter_len l.pass-iterator ≤ vec_capacity l.seats;
  many : into_iter_len l.connections ≡ into_iter_len l.pass-iterator;
}
