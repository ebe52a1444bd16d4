use Rattle.std.proofs.Common.{◌≡◌, ◌+◌, ◌≤◌, ◌++◌, map, vec_len, vec_capacity}
use Rattle.std.specs.Vec.Iter.{into_iter_items, into_iter_len}
use Rattle.pfl_serve.specs.Services.{ended_seat, pass_of}
use Rattle.pfl_serve.proofs.closing.take_passes.Given as goal

-- what was taken of the seats so far, and that of the seats that are left, is all
abbrev pub invariant-loop-one : goal.invariant-loop-one
invariant-loop-one g l = record {
  passes : l.passes.items ++ map pass_of (into_iter_items l.one-iterator) ≡ map pass_of l.fn.served.items;
  ended : l.ended.items ++ map ended_seat (into_iter_items l.one-iterator) ≡ map ended_seat l.fn.served.items;
  room : vec_len l.passes + into_iter_len l.one-iterator ≤ vec_capacity l.passes;
  room_ended : vec_len l.ended + into_iter_len l.one-iterator ≤ vec_capacity l.ended;
}
