use Rattle.std.proofs.Common.{Option, subst, ap, sym}
use Rattle.pfl_table.specs.declared.row.Row.{Row}
use Rattle.pfl_table.specs.Tables.{Table, IsTable, with_row}
use Rattle.pfl_table.proofs.Setting.{set_leads_back}
use Rattle.pfl_table.proofs.table.StateTable.set_row.Goals as goal

pub set-before-requires : goal.set-before-requires
set-before-requires g c = record { table = subst (λ (t : Table). IsTable (with_row t c.args.name c.args.at.now)) (sym c.self.view_is) c.requires }

pub invariant_of-self : goal.invariant_of-self
invariant_of-self g c = subst IsTable (sym c.set-before.ensures.set)
    (subst (λ (t : Table). IsTable (with_row t c.args.name c.args.at.now)) (sym c.self.view_is) c.requires)

pub returns-clause-set : goal.returns-clause-set
returns-clause-set g c = rw (← c.self.view_is) c.set-before.ensures.set

pub returns-clause-leads_back : goal.returns-clause-leads_back
returns-clause-leads_back g c =
    set_leads_back c.args.self.now _ _ c.args.name c.args.at.now (subst IsTable c.self.view_is c.self.invariant)
    (rw (← c.self.view_is) (ap (λ (o : Option Row). record { name = c.args.name; before = o; after = c.args.at.now }) c.set-before.ensures.former))
    (rw (← c.self.view_is) c.set-before.ensures.set)
