use Rattle.std.proofs.Common.{◌<◌, length, ◌∙◌, sym, subst}
use Rattle.pfl_table.specs.inner.Filed.{Filing, HasNoKey}
use Rattle.pfl_table.proofs.Putting.{names-apart, not_found, room-for, table-changed, table-put}
use Rattle.pfl_table.proofs.Replaced.{table-others, table-no_key}
use Rattle.pfl_table.proofs.Viewed.{get-rows_of}
use Rattle.pfl_table.proofs.stored.Stored.put.Goals as goal

pub change-requires : goal.change-requires
change-requires g c =
    let old = c.args.self.now in
    let are = c.known-2.ensures.filed in
    record { stated = c.known.ensures; new = table-others old c.args.row.now are.stated c.known.ensures (names-apart old are) c.requires.table }

pub insert-requires-clause-room : goal.insert-requires-clause-room
insert-requires-clause-room g c =
    let old = c.args.self.now in
    subst (λ (f : Filing). length f.links < f.limit) (sym c.in-None.ensures.unchanged)
    (room-for old c.args.row.now c.known-2.ensures.filed
    (not_found old.links c.args.row.now.state.name c.in-None.ensures.former) c.requires.table)

pub insert-requires-clause-new : goal.insert-requires-clause-new
insert-requires-clause-new g c =
    let old = c.args.self.now in
    let are = c.known-2.ensures.filed in
    subst (λ (f : Filing). HasNoKey f.links c.args.row.now) (sym c.in-None.ensures.unchanged)
    (table-no_key old c.args.row.now are.stated c.known.ensures (names-apart old are)
    (not_found old.links c.args.row.now.state.name c.in-None.ensures.former) c.requires.table)

pub returns-in-Some-clause-former : goal.returns-in-Some-clause-former
returns-in-Some-clause-former g c = c.in-Some.ensures.former ∙ sym (get-rows_of c.args.self.now.links c.args.row.now.state.name)

pub returns-in-Some-clause-set : goal.returns-in-Some-clause-set
returns-in-Some-clause-set g c =
    table-changed c.args.self.now _ c.in-Some.was c.args.row.now c.in-Some.ensures.former c.in-Some.ensures.changes c.known-2.ensures.filed

pub returns-in-None-clause-former : goal.returns-in-None-clause-former
returns-in-None-clause-former g c = c.in-None.ensures.former ∙ sym (get-rows_of c.args.self.now.links c.args.row.now.state.name)

pub returns-in-None-clause-set : goal.returns-in-None-clause-set
returns-in-None-clause-set g c =
    let old = c.args.self.now in
    table-put old _ _ c.args.row.now c.in-None.ensures.unchanged c.insert.ensures.gains (not_found old.links c.args.row.now.state.name c.in-None.ensures.former)
