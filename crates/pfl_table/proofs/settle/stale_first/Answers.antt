use Rattle.std.proofs.Common.{◌<◌, ◌≤◌, ℕ, get_or, Option, IfSome, subst, arith}
use Rattle.pfl_containers.specs.Lists.{links_of}
use Rattle.pfl_table.specs.declared.row.Row.{Row}
use Rattle.pfl_table.specs.inner.Dues.{IsStale, due_first}
use Rattle.pfl_table.proofs.First.{first-filed, its-place}
use Rattle.pfl_table.proofs.Settling.{if_none, if_some, is_used, not_used}
use Rattle.pfl_table.proofs.settle.stale_first.Goals as goal

pub at-requires : goal.at-requires
at-requires g c =
    let rows = c.args.rows.now in
    let d = c.args.expiries.now in
    let f = first-filed c.args.adaptive c.args.states d.filed
    (links_of rows 0) d.list c.known-2.ensures.entries.sorted c.requires.dues.order c.in_ok-slot.slot c.in_ok-slot.ensures.first in
    record { stands = (its-place rows c.requires.one c.in_ok-slot.slot f.row f.stands).at }

pub returns-then-is_stale-clause-stale : goal.returns-then-is_stale-clause-stale
returns-then-is_stale-clause-stale g c =
    let rows = c.args.rows.now in
    let d = c.args.expiries.now in
    let slot = c.in_ok-slot.slot in
    let f = first-filed c.args.adaptive c.args.states d.filed
    (links_of rows 0) d.list c.known-2.ensures.entries.sorted c.requires.dues.order slot c.in_ok-slot.ensures.first in
    let place = its-place rows c.requires.one slot f.row f.stands in
    record {
      at = place.at;
      here = place.here;
      used = subst (λ (r : Row). get_or d.filed slot 0 < r.state.last) (c.at.ensures.value place.at)
          (is_used _ _ _ c.is_stale.ensures.stale c.if-is_stale.true);
    }

pub returns-in_err-slot-clause-settled : goal.returns-in_err-slot-clause-settled
returns-in_err-slot-clause-settled g c =
    if_none c.from_residual.result _
    (subst (λ (o : Option ℕ). IfSome o (λ slot. IsStale c.args.rows.now c.args.expiries.now slot → ⊥)) c.in_err-slot.ensures.first tt)

pub returns-else-is_stale-clause-settled : goal.returns-else-is_stale-clause-settled
returns-else-is_stale-clause-settled g c =
    let rows = c.args.rows.now in
    let d = c.args.expiries.now in
    let slot = c.in_ok-slot.slot in
    if_some (due_first c.args.adaptive c.args.states d) slot (λ n. IsStale rows d n → ⊥) c.in_ok-slot.ensures.first (λ stale.
    let not = subst (λ (r : Row). r.state.last ≤ get_or d.filed slot 0) (c.at.ensures.value stale.at)
    (not_used _ _ _ c.is_stale.ensures.stale c.if-is_stale.false) in
    omega (arith, not, stale.used))
