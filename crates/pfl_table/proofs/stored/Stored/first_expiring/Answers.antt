use Rattle.std.proofs.Common.{List, Some, ◌≤◌, get_or, ◌∙◌, ap, sym, subst}
use Rattle.std.specs.List.{slice_get}
use Rattle.std.specs.Option.{option_copied}
use Rattle.pfl_base.specs.Lists.{in_order}
use Rattle.pfl_base.specs.Names.{name_cmp}
use Rattle.pfl_edits.proofs.ForCallers.{Distinct-rising}
use Rattle.pfl_containers.specs.Lists.{links_of}
use Rattle.pfl_containers.specs.SlotIndexes.{key_of}
use Rattle.pfl_table.specs.declared.row.Row.{Row}
use Rattle.pfl_table.specs.Tables.{row_before}
use Rattle.pfl_table.specs.inner.Filed.{name_of}
use Rattle.pfl_table.proofs.First.{first-filed, first-fresh, its-place, its-row, none-filed}
use Rattle.pfl_table.proofs.Settling.{not_used}
use Rattle.pfl_table.proofs.stored.Stored.first_expiring.Goals as goal

pub at-first-requires : goal.at-first-requires
at-first-requires g c =
    let rows = c.self.inside.rows in
    let d = c.self.inside.indexes.expiries in
    let f = first-filed c.args.adaptive c.args.states d.filed
    (links_of rows 0) d.list c.known-2.ensures.entries.sorted c.self.invariant.indexes.expiries.order c.in_ok-slot.slot
    c.in_ok-slot.ensures.first in
    record { stands = (its-place rows c.self.invariant.one c.in_ok-slot.slot f.row f.stands).at }

pub returns-in_err-slot : goal.returns-in_err-slot
returns-in_err-slot g c =
    let d = c.self.inside.indexes.expiries in
    record {
      row = rw (← c.self.view_is) (ap option_copied c.from_residual.ensures
          ∙ sym (none-filed c.args.adaptive c.args.states d.filed
          (links_of c.self.inside.rows 0) d.list c.known-2.ensures.entries.sorted c.self.invariant.indexes.expiries.order
          c.in_err-slot.ensures.first));
    }

pub returns-then-is_stale : goal.returns-then-is_stale
returns-then-is_stale g c = record {
  row = c.earliest.ensures.first ∙ ap (λ (rows : List Row). slice_get (in_order (row_before c.args.adaptive c.args.states) rows) 0) c.iter.ensures.rows;
}

pub returns : goal.returns
returns g c =
    let rows = c.self.inside.rows in
    let d = c.self.inside.indexes.expiries in
    let slot = c.in_ok-slot.slot in
    let f = first-filed c.args.adaptive c.args.states d.filed
    (links_of rows 0) d.list c.known-2.ensures.entries.sorted c.self.invariant.indexes.expiries.order slot c.in_ok-slot.ensures.first in
    let row = its-row rows c.self.invariant.one slot f.row f.stands c.at-first.result.now c.at-first.ensures.value in
    let names = Distinct-rising name_cmp (key_of name_of) (links_of rows 0) c.self.invariant.rising in
    let not = subst (λ (r : Row). r.state.last ≤ get_or d.filed slot 0) row (not_used _ _ _ c.is_stale.ensures.stale c.if-is_stale.false) in
    let first = first-fresh c.args.adaptive c.args.states d.filed (links_of rows 0) names c.self.invariant.indexes.expiries.used slot f not in
    record { row = rw (← c.self.view_is) (ap Some row ∙ sym first) }
