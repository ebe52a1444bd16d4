use Rattle.std.proofs.Common.{◌≡◌, ◌+◌, ◌≤◌, length, map, vec_capacity, vec_len}
use Rattle.std.specs.Vec.Iter.{into_iter_items, into_iter_len}
use Rattle.pfl_host.specs.Reports.{first_fault, first_of}
use Rattle.pfl_host.proofs.Sitting.{BackSoFar}
use Rattle.pfl_host.proofs.closing.ends_of.Given as goal

-- the fault so far, and else that of the seats that are left, is the one of all; no more browsers than seats were seen; of the seats that were
-- seen the connections came back, and there is room for the others
abbrev pub invariant-loop-seat : goal.invariant-loop-seat
invariant-loop-seat g l = record {
  fault : first_of l.fault (first_fault (map (λ s. s.result) (into_iter_items l.seat-iterator))) ≡ first_fault (map (λ s. s.result) l.fn.ended.items);
  browsers : l.browsers + length (into_iter_items l.seat-iterator) ≤ length l.fn.ended.items;
  back : BackSoFar g.I.Input l.fn.ended.items (into_iter_items l.seat-iterator) l.sides.items;
  room : vec_len l.sides + into_iter_len l.seat-iterator ≤ vec_capacity l.sides;
}
