use Rattle.std.proofs.Common.{◌≡◌, Option, Some, IfSome, ◌∙◌, ap, sym, subst}
use Rattle.pfl_base.specs.declared.state_name.StateName.{StateName}
use Rattle.pfl_edits.specs.Maps as maps
use Rattle.pfl_table.specs.declared.row.Row.{Row}
use Rattle.pfl_table.specs.Tables.{IsTable, with_row}
use Rattle.pfl_table.specs.inner.Filed.{rows_of, table_of}
use Rattle.pfl_table.proofs.Setting.{own_name}
use Rattle.pfl_table.proofs.stored.Stored.set.Goals as goal

pub put-requires : goal.put-requires
put-requires g c =
    let t = table_of c.args.self.now in
    let name = c.args.name in
    let named = subst (λ (o : Option Row). IfSome o (λ r. r.state.name ≡ name)) c.in-Some.is (own_name t name c.args.at.now c.requires.table) in
    record {
      table = subst (λ (n : StateName). IsTable (with_row t n (Some c.in-Some.row))) (sym named)
          (subst (λ (o : Option Row). IsTable (with_row t name o)) c.in-Some.is c.requires.table);
    }

pub returns-in-Some-clause-former : goal.returns-in-Some-clause-former
returns-in-Some-clause-former g c =
    let t = table_of c.args.self.now in
    let name = c.args.name in
    let named = subst (λ (o : Option Row). IfSome o (λ r. r.state.name ≡ name)) c.in-Some.is (own_name t name c.args.at.now c.requires.table) in
    c.put.ensures.former ∙ ap (maps.get (rows_of c.args.self.now.links)) named

pub returns-in-Some-clause-set : goal.returns-in-Some-clause-set
returns-in-Some-clause-set g c =
    let t = table_of c.args.self.now in
    let name = c.args.name in
    let named = subst (λ (o : Option Row). IfSome o (λ r. r.state.name ≡ name)) c.in-Some.is (own_name t name c.args.at.now c.requires.table) in
    c.put.ensures.set ∙ (ap (λ (n : StateName). with_row t n (Some c.in-Some.row)) named ∙ ap (with_row t name) (sym c.in-Some.is))

pub returns-in-None-clause-set : goal.returns-in-None-clause-set
returns-in-None-clause-set g c = c.take.ensures.taken ∙ ap (with_row (table_of c.args.self.now) c.args.name) (sym c.in-None.is)
