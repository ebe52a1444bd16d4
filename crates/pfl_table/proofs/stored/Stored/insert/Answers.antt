use Rattle.std.proofs.Common.{◌<◌, length, ◌∙◌, ap, sym, subst}
use Rattle.pfl_base.specs.declared.state_name.StateName.{StateName}
use Rattle.pfl_base.specs.Names.{name_cmp}
use Rattle.pfl_edits.proofs.ForCallers.{row_at}
use Rattle.pfl_containers.specs.Lists.{links_of}
use Rattle.pfl_containers.specs.NameKeys.{by_name_cmp}
use Rattle.pfl_containers.specs.SlotIndexes.{HasNone, key_of}
use Rattle.pfl_table.specs.inner.Ordering.{by_name}
use Rattle.pfl_table.specs.inner.Filed.{Filing, HasNoKey, NameGap, name_of}
use Rattle.pfl_table.proofs.Storing.{by_name-found, may-gain, stored-gains, gains-row}
use Rattle.pfl_table.proofs.stored.Stored.insert.Goals as goal

pub behind-behind-requires-clause-new : goal.behind-behind-requires-clause-new
behind-behind-requires-clause-new g c =
    let links = links_of c.self.inside.rows 0 in
    let none = subst (λ (f : Filing). HasNone by_name_cmp by_name f.links (by_name c.args.row)) (sym c.self.view_is) c.requires.new.name in
    ap (row_at name_cmp (key_of name_of) links) c.name.ensures ∙ (sym (by_name-found links c.args.row.state.name) ∙ none)

pub insert-requires : goal.insert-requires
insert-requires g c =
    let rows = c.self.inside.rows in
    let gap = subst (λ (n : StateName). NameGap rows n c.behind-behind.result) c.name.ensures c.behind-behind.ensures.gap in
    let none = subst (λ (f : Filing). HasNoKey f.links c.args.row) (sym c.self.view_is) c.requires.new in
    let room = subst (λ (f : Filing). length f.links < f.limit) (sym c.self.view_is) c.requires.room in
    record {
      new = may-gain rows _ c.self.inside.indexes c.self.invariant c.insert_after-slot.result c.args.row c.behind-behind.result gap
          (c.insert_after-slot.ensures.inserted gap.gap) c.known.ensures.lists room none;
    }

pub invariant_of-self : goal.invariant_of-self
invariant_of-self g c =
    let rows = c.self.inside.rows in
    let gap = subst (λ (n : StateName). NameGap rows n c.behind-behind.result) c.name.ensures c.behind-behind.ensures.gap in
    let none = subst (λ (f : Filing). HasNoKey f.links c.args.row) (sym c.self.view_is) c.requires.new in
    stored-gains rows _ c.self.inside.indexes _ c.self.invariant c.insert_after-slot.result c.args.row c.behind-behind.result gap
    (c.insert_after-slot.ensures.inserted gap.gap) c.known.ensures.lists c.insert.ensures.gains none c.requires.stated

pub returns : goal.returns
returns g c =
    let rows = c.self.inside.rows in
    let gap = subst (λ (n : StateName). NameGap rows n c.behind-behind.result) c.name.ensures c.behind-behind.ensures.gap in
    record {
      gains = rw (← c.self.view_is)
          (gains-row rows _ c.self.inside.indexes c.self.invariant c.insert_after-slot.result c.args.row c.behind-behind.result gap
          (c.insert_after-slot.ensures.inserted gap.gap));
    }
