use Rattle.pfl_base.specs.Names.{name_cmp}
use Rattle.pfl_table.specs.inner.Filed.{name_of}
use Rattle.pfl_table.proofs.Storing.{slot-found}
use Rattle.pfl_table.proofs.stored.Stored.by_name.Goals as goal

pub at-requires : goal.at-requires
at-requires g c = record { stands = slot-found name_cmp name_of c.args.self.now.links c.args.name c.slot_of_name.result c.slot_of_name.ensures.slot }

pub returns : goal.returns
returns g c = record {
  row = c.at.ensures.row
      (slot-found name_cmp name_of c.args.self.now.links c.args.name c.slot_of_name.result c.slot_of_name.ensures.slot);
}
