use Rattle.std.proofs.Common.{refl, ◌∙◌, sym}
use Rattle.pfl_table.proofs.Putting.{names-apart, not_found, room-for, table-put}
use Rattle.pfl_table.proofs.Replaced.{table-no_key}
use Rattle.pfl_table.proofs.Viewed.{get-rows_of}
use Rattle.pfl_table.proofs.stored.Stored.add.Goals as goal

pub insert-requires-clause-room : goal.insert-requires-clause-room
insert-requires-clause-room g c =
    let old = c.args.self.now in
    let row = c.args.row.now in
    room-for old row c.known-2.ensures.filed (not_found old.links row.state.name (sym c.requires.new ∙ get-rows_of old.links row.state.name)) c.requires.table

pub insert-requires-clause-new : goal.insert-requires-clause-new
insert-requires-clause-new g c =
    let old = c.args.self.now in
    let row = c.args.row.now in
    let are = c.known-2.ensures.filed in
    table-no_key old row are.stated c.known.ensures (names-apart old are)
    (not_found old.links row.state.name (sym c.requires.new ∙ get-rows_of old.links row.state.name)) c.requires.table

pub returns : goal.returns
returns g c =
    let old = c.args.self.now in
    let row = c.args.row.now in
    record {
      set = table-put old old _ row refl c.insert.ensures.gains
          (not_found old.links row.state.name (sym c.requires.new ∙ get-rows_of old.links row.state.name));
    }
