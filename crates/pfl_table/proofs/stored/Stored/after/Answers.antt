use Rattle.std.proofs.Common.{◌∙◌, ap, sym, subst}
use Rattle.std.specs.Option.{option_map}
use Rattle.std.specs.Ordering.{is_lt}
use Rattle.pfl_base.specs.Names.{name_cmp}
use Rattle.pfl_edits.specs.Maps as maps
use Rattle.pfl_edits.specs.Ordered.{IsRising}
use Rattle.pfl_containers.specs.NameKeys.{by_name_cmp}
use Rattle.pfl_containers.specs.SlotIndexes.{IsIndex, key_of}
use Rattle.pfl_table.specs.declared.row.Row.{Row}
use Rattle.pfl_table.specs.inner.Ordering.{by_name}
use Rattle.pfl_table.specs.inner.Filed.{Filing, name_of, row_of_link}
use Rattle.pfl_table.proofs.Listed.{find-listed, some_row, no_row, above-found}
use Rattle.pfl_table.proofs.Scanned.{find-map}
use Rattle.pfl_table.proofs.stored.Stored.after.Goals as goal

pub at-requires : goal.at-requires
at-requires g c =
    let links = c.args.self.now.links in
    let i = subst (λ (f : Filing). IsIndex by_name_cmp by_name f.links (maps.from_sorted c.self.inside.indexes.order.list)) c.self.view_is
    c.self.invariant.indexes.order in
    let rising = subst (λ (f : Filing). IsRising name_cmp (key_of name_of) f.links) c.self.view_is c.self.invariant.rising in
    let first = some_row _ _ _ (c.after.ensures.next
    ∙ find-listed c.self.inside.indexes.order.list links c.known.ensures.entries.sorted i rising c.args.name) c.in-Some.is in
    record { stands = above-found links c.args.name first.row c.in-Some.slot first.is first.slot }

pub returns-in-Some : goal.returns-in-Some
returns-in-Some g c =
    let links = c.args.self.now.links in
    let test = λ (r : Row). is_lt (name_cmp c.args.name r.state.name) in
    let i = subst (λ (f : Filing). IsIndex by_name_cmp by_name f.links (maps.from_sorted c.self.inside.indexes.order.list)) c.self.view_is
    c.self.invariant.indexes.order in
    let rising = subst (λ (f : Filing). IsRising name_cmp (key_of name_of) f.links) c.self.view_is c.self.invariant.rising in
    let first = some_row _ _ _ (c.after.ensures.next
    ∙ find-listed c.self.inside.indexes.order.list links c.known.ensures.entries.sorted i rising c.args.name) c.in-Some.is in
    record {
      row = c.at.ensures.row (above-found links c.args.name first.row c.in-Some.slot first.is first.slot)
          ∙ sym (find-map row_of_link test links ∙ ap (option_map row_of_link) first.is);
    }

pub returns-in-None : goal.returns-in-None
returns-in-None g c =
    let links = c.args.self.now.links in
    let test = λ (r : Row). is_lt (name_cmp c.args.name r.state.name) in
    let i = subst (λ (f : Filing). IsIndex by_name_cmp by_name f.links (maps.from_sorted c.self.inside.indexes.order.list)) c.self.view_is
    c.self.invariant.indexes.order in
    let rising = subst (λ (f : Filing). IsRising name_cmp (key_of name_of) f.links) c.self.view_is c.self.invariant.rising in
    let none = no_row _ _ (c.after.ensures.next
    ∙ find-listed c.self.inside.indexes.order.list links c.known.ensures.entries.sorted i rising c.args.name) c.in-None.is in
    record { row = sym (find-map row_of_link test links ∙ ap (option_map row_of_link) none) }
