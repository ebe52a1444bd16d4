use Rattle.std.proofs.Common.{arith, length, ◌<◌, ◌≡◌}
use Rattle.pfl_wire.proofs.Left.{left_end, next_group, group_stands}
use Rattle.pfl_wire.proofs.frame_bytes.group_with_more.Goals as goal

pub returns-then-is_empty : goal.returns-then-is_empty
returns-then-is_empty c =
    let none : c.args.group.count ≡ 0 = omega arith in
    let at_end : length c.args.bytes.now ≡ 0 = grind arith in
    left_end c.args.group c.args.bytes.now none at_end

pub unreachable-requires : goal.unreachable-requires
unreachable-requires c =
    let none : c.args.group.count ≡ 0 = omega arith in
    let more : 0 < length c.args.bytes.now = grind arith in
    group_stands c.args.group c.args.bytes.now c.in-Err.field-0 none more (λ i. omega (arith, c.type_inv.bytes i)) c.in-Err.ensures c.requires.readable

pub returns : goal.returns
returns c =
    let none : c.args.group.count ≡ 0 = omega arith in
    let more : 0 < length c.args.bytes.now = grind arith in
    next_group c.args.group c.args.bytes.now (c.in-Ok.next.0, c.in-Ok.next.1.now) none more (λ i. omega (arith, c.type_inv.bytes i)) c.in-Ok.ensures
