use Rattle.std.proofs.Common.{◌≡◌, ◌∙◌, ap, sym, arith}
use Rattle.pfl_table.specs.inner.Heads.{by_timeout, head_of, heads_of, heads_with}
use Rattle.pfl_table.proofs.FirstOfEach.{heads-more, heads-room}
use Rattle.pfl_table.proofs.due_order.DueOrder.insert.Goals as goal

pub enter-requires : goal.enter-requires
enter-requires g c =
    let old = c.self.inside.order in
    let new = c.insert.new.self in
    let h = head_of (c.of-key.result, c.args.slot) in
    let same : heads_with (by_timeout c.self.inside.heads.list) h ≡ heads_of new.list =
    ap (λ m. heads_with m h) c.self.invariant.1.first
    ∙ heads-more c.of-key.result c.args.slot old.list new.list c.known.ensures.entries.sorted c.known-2.ensures.entries.sorted
    c.insert.ensures.map in
    record {
      room = heads-room _ new.list new.limit c.self.inside.heads.limit same c.known-2.ensures.entries.few (c.self.invariant.1.room
          ∙ sym c.insert.ensures.limit);
    }

pub invariant_of-self : goal.invariant_of-self
invariant_of-self g c =
    let old = c.self.inside.order in
    let new = c.insert.new.self in
    let h = head_of (c.of-key.result, c.args.slot) in
    let same : heads_with (by_timeout c.self.inside.heads.list) h ≡ heads_of new.list =
    ap (λ m. heads_with m h) c.self.invariant.1.first
    ∙ heads-more c.of-key.result c.args.slot old.list new.list c.known.ensures.entries.sorted c.known-2.ensures.entries.sorted
    c.insert.ensures.map in (
      omega (arith, c.self.invariant.0, c.insert.ensures.limit),
      record { first = c.enter.ensures.heads ∙ same; room = c.enter.ensures.limit ∙ (c.self.invariant.1.room ∙ sym c.insert.ensures.limit) },
      tt,
    )
