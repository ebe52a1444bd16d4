use Rattle.std.proofs.Common.{◌≤◌, ◌*◌, ◌+◌, vec_capacity, arith}
use Rattle.pfl_containers.proofs.SlotFields.{fields-free, resized, tag_map-free}
use Rattle.pfl_containers.proofs.slots.SlotIndex.new.Goals as goal

pub invariant_of-result : goal.invariant_of-result
invariant_of-result g c =
    let made = c.first_buckets-buckets.ensures in
    let room : 3 * c.args.limit + 1 ≤ vec_capacity c.resize.new.self = omega (arith, c.in_ok-resize.ensures.capacity, c.in_ok-words.ensures.capacity) in
    rw (c.in_ok-resize.ensures.items, resized _ _ _ _ c.in_ok-words.ensures.items c.in_ok-words.ensures.len) (
      fields-free c.args.limit c.first_buckets-buckets.result
          (vec_capacity c.resize.new.self) c.free.result c.free.ensures.free made.some made.most (omega arith) made.sparse room,
      record { empty = c.in_ok-spare.ensures.items; room = c.in_ok-spare.ensures.capacity },
    )

pub returns-clause-empty : goal.returns-clause-empty
returns-clause-empty g c =
    rw (c.in_ok-resize.ensures.items, resized _ _ _ _ c.in_ok-words.ensures.items c.in_ok-words.ensures.len) (tag_map-free _ c.free.result c.free.ensures.free)
