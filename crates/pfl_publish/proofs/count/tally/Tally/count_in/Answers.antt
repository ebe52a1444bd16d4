use Rattle.std.proofs.Common.{◌∙◌, ap, arith}
use Rattle.atomic_table.specs.Table.{Me}
use Rattle.pfl_publish.specs.declared.count.view.View.{View}
use Rattle.pfl_publish.proofs.KeepsCount.{joins, compares, counts, splits, united_parts, united_whole}
use Rattle.pfl_publish.proofs.count.tally.Tally.count_in.Goals as goal

pub join_seat-requires : goal.join_seat-requires
join_seat-requires g c = let wide = c.self.invariant in (cc, cc, c.mine.invariant.0, omega arith, joins _ _ _ _ c.kept.invariant.1 c.mine.invariant.1)

pub load-requires : goal.load-requires
load-requires g c =
    let wide = c.self.invariant in
    let all = united_parts c.join_seat.new.seat.me c.kept.inside.seat.me.0 c.mine.inside.seat.me.0 _ c.join_seat.ensures.2
    c.kept.invariant.1 c.mine.invariant.1 in
    (cc, omega arith, compares _ _ c.join_seat.new.seat.me (omega arith))

pub load-requires-2 : goal.load-requires-2
load-requires-2 g c =
    let wide = c.self.invariant in
    let whole_is = united_whole c.join_seat.new.seat.me c.load.new.seat.me c.kept.inside.seat.me.0 c.mine.inside.seat.me.0 _
    c.join_seat.ensures.2 c.load.ensures.2.0 c.load.ensures.2.1 c.kept.invariant.1 c.mine.invariant.1 in
    (cc, omega arith, counts _ _ c.load.new.seat.me (ap (λ (v : View). v.parts) whole_is.1))

pub split_seat-seat-requires : goal.split_seat-seat-requires
split_seat-seat-requires g c =
    let wide = c.self.invariant in
    let whole_is = united_whole c.join_seat.new.seat.me c.load.new.seat.me c.kept.inside.seat.me.0 c.mine.inside.seat.me.0 _
    c.join_seat.ensures.2 c.load.ensures.2.0 c.load.ensures.2.1 c.kept.invariant.1 c.mine.invariant.1 in
    let parts = ap (λ (v : View). v.parts) whole_is.1 in
    (cc, omega arith, splits _ _ (ap (λ (m : Me (Unit {0}) View). m.0.parts) c.load-2.ensures.2 ∙ parts))
