use Rattle.std.proofs.Common.{◌≡◌, ◌∙◌, ap, sym, arith, is_lt}
use Rattle.std.specs.List.{find}
use Rattle.pfl_table.specs.inner.Heads.{by_timeout, heads_of, heads_without}
use Rattle.pfl_table.specs.inner.Ordering.{expiry_cmp}
use Rattle.pfl_table.proofs.FirstOfEach.{heads-less, heads-room}
use Rattle.pfl_table.proofs.due_order.DueOrder.remove.Goals as goal

pub leave-requires : goal.leave-requires
leave-requires g c =
    let old = c.self.inside.order in
    let new = c.remove.new.self in
    let key = c.at-key.result in
    let same : heads_without (by_timeout c.self.inside.heads.list) key (find (λ e. is_lt (expiry_cmp key e.0)) new.list) ≡ heads_of new.list =
    ap (λ m. heads_without m key (find (λ e. is_lt (expiry_cmp key e.0)) new.list)) c.self.invariant.1.first
    ∙ heads-less key old.list new.list c.known.ensures.entries.sorted c.known-2.ensures.entries.sorted c.remove.ensures.map in
    record {
      room = heads-room _ new.list new.limit c.self.inside.heads.limit same c.known-2.ensures.entries.few (c.self.invariant.1.room
          ∙ sym c.remove.ensures.limit);
    }

pub invariant_of-self : goal.invariant_of-self
invariant_of-self g c =
    let old = c.self.inside.order in
    let new = c.remove.new.self in
    let key = c.at-key.result in
    let same : heads_without (by_timeout c.self.inside.heads.list) key (find (λ e. is_lt (expiry_cmp key e.0)) new.list) ≡ heads_of new.list =
    ap (λ m. heads_without m key (find (λ e. is_lt (expiry_cmp key e.0)) new.list)) c.self.invariant.1.first
    ∙ heads-less key old.list new.list c.known.ensures.entries.sorted c.known-2.ensures.entries.sorted c.remove.ensures.map in (
      omega (arith, c.self.invariant.0, c.remove.ensures.limit),
      record { first = c.leave.ensures.heads ∙ same; room = c.leave.ensures.limit ∙ (c.self.invariant.1.room ∙ sym c.remove.ensures.limit) },
      tt,
    )
