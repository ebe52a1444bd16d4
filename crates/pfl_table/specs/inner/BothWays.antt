-- An edit of a table knows both values of its place.
use Rattle.std.specs.Prelude.{◌≡◌, refl}
use Rattle.pfl_base.proofs.ForCallers.{names_total, names_exact}
use Rattle.pfl_edits.specs.Changes.{LeadsBothWays}
use Rattle.pfl_edits.specs.Maps.{set_at}
use Rattle.pfl_edits.specs.Maps as maps
use Rattle.pfl_edits.proofs.ForCallers.{part-both_ways, key-both_ways}
use Rattle.pfl_table.specs.declared.edit.TableEdit.{TableEdit}
use Rattle.pfl_table.specs.Tables.{Table, Finds, FindsFormer, put_back, redone}

-- an edit knows both values of its place
pub table-both_ways : (e : TableEdit) → LeadsBothWays (FindsFormer e) (Finds e) (put_back e) (redone e)
table-both_ways e =
    part-both_ways (λ (t : Table). t.rows) (λ t m. record { limit = t.limit; rows = m }) (λ t m. refl) (λ t. refl) (λ t m n. refl)
    (λ m. maps.get m e.name ≡ e.before) (λ m. maps.get m e.name ≡ e.after) (λ m. set_at m e.name e.before) (λ m. set_at m e.name e.after)
    (key-both_ways names_total names_exact e.name e.before e.after)
