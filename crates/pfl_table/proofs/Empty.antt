-- A table without rows.
use Rattle.std.specs.Prelude.{◌≡◌, ◌≤◌, []}
use Rattle.std.proofs.Common.{◌∙◌, ap, sym, subst, arith}
use Rattle.pfl_base.specs.Names.{name_cmp}
use Rattle.pfl_edits.specs.Maps as maps
use Rattle.pfl_edits.specs.Maps.{Map}
use Rattle.pfl_edits.proofs.ForCallers.{len-empty, get-empty, some_is_none}
use Rattle.pfl_containers.proofs.ForCallers.{map_values-empty}
use Rattle.pfl_table.specs.declared.row.Row.{Row}
use Rattle.pfl_table.specs.Tables.{IsTable, AreStates}
use Rattle.pfl_table.proofs.Tables.{states_of-empty}
use Rattle.pfl_table.specs.inner.Filed.{Filing, rows_of, table_of, row_of_link}

AreStates-empty : AreStates maps.empty
AreStates-empty = record {
  filed = λ n s is. absurd (some_is_none s (sym is ∙ get-empty name_cmp n));
  one_wire = λ n o s t is. absurd (some_is_none s (sym is ∙ get-empty name_cmp n));
  one_stack = λ n o s t is. absurd (some_is_none s (sym is ∙ get-empty name_cmp n));
}

-- it has no rows
pub rows-none : (f : Filing) → f.links ≡ [] → rows_of f.links ≡ maps.empty
rows-none f none = ap rows_of none ∙ map_values-empty name_cmp row_of_link

-- and is a table
pub table-empty : (f : Filing) → f.links ≡ [] → IsTable (table_of f)
table-empty f none = record {
  few = subst (λ (m : Map name_cmp Row). maps.len m ≤ f.limit) (sym (rows-none f none)) (omega (arith, len-empty name_cmp Row));
  states = subst AreStates (sym (states_of-empty (table_of f) (rows-none f none))) AreStates-empty;
}
