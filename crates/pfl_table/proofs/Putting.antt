-- What is set under a name in rows at slots is set in the table.
use Rattle.std.specs.Prelude.{◌≡◌, ◌+◌, ◌<◌, List, length, Option, Some, None, IfNone, IfSome, is_some, refl}
use Rattle.std.specs.Option.{option_map}
use Rattle.std.proofs.Common.{cond, ◌∙◌, ap, sym, subst, arith}
use Rattle.pfl_base.specs.declared.state_name.StateName.{StateName}
use Rattle.pfl_base.specs.Names.{name_cmp}
use Rattle.pfl_base.proofs.ForCallers.{names_total, names_exact}
use Rattle.pfl_edits.specs.Maps as maps
use Rattle.pfl_edits.proofs.ForCallers.{len-insert, Distinct-rising, row_at, Distinct, some_is_none}
use Rattle.pfl_containers.specs.Lists.{Link}
use Rattle.pfl_containers.specs.SlotIndexes.{HasNone, key_of}
use Rattle.pfl_containers.proofs.ForCallers.{key_of_row}
use Rattle.pfl_table.specs.declared.row.Row.{Row}
use Rattle.pfl_table.specs.Tables.{IsTable, with_row}
use Rattle.pfl_table.specs.inner.Filed.{Filing, AreFiled, GainsRow, LosesRow, ChangesRow, name_of, rows_of, table_of, row_of_link}
use Rattle.pfl_table.proofs.Replaced.{table-gains, table-loses, table-changes}
use Rattle.pfl_table.proofs.Setting.{without_none}
use Rattle.pfl_table.proofs.Viewed.{get-rows_of, len-rows_of}

pub names-apart : (f : Filing) → AreFiled f → Distinct name_cmp (key_of name_of) f.links
names-apart f are = Distinct-rising name_cmp (key_of name_of) f.links are.rising

-- the row that stood there, as it was found
record Found (links : List (Link Row)) (name : StateName) (r : Row) : Type 0 where
  pub link : Link Row
  pub at : row_at name_cmp (key_of name_of) links name ≡ Some link
  pub is : link.value ≡ r

found : (links : List (Link Row)) (name : StateName) (r : Row) (at : Option (Link Row)) → row_at name_cmp (key_of name_of) links name ≡ at
    → Some r ≡ option_map row_of_link at → Found links name r
found links name r None is e = absurd (some_is_none r e)
found links name r (Some l) is e = let same : l.value ≡ r = cc in record { link = l; at = is; is = same }

found_name : (links : List (Link Row)) (name : StateName) (r : Row) → Found links name r → name_of r ≡ name
found_name links name r f = ap name_of (sym f.is) ∙ key_of_row names_total names_exact (key_of name_of) links name f.link f.at

-- no row of the name was found
pub not_found : (links : List (Link Row)) (name : StateName) → None ≡ option_map row_of_link (row_at name_cmp (key_of name_of) links name)
    → HasNone name_cmp name_of links name
not_found links name e = none (row_at name_cmp (key_of name_of) links name) e
  where
    none : (at : Option (Link Row)) → None ≡ option_map row_of_link at → at ≡ None
    none None is = refl
    none (Some l) is = absurd (some_is_none l.value (sym is))

-- there is room for a row that makes a table
pub room-for : (f : Filing) (r : Row) → AreFiled f → HasNone name_cmp name_of f.links (name_of r)
    → IsTable (with_row (table_of f) (name_of r) (Some r)) → length f.links < f.limit
room-for f r are none table =
    let there : maps.get (rows_of f.links) (name_of r) ≡ None = get-rows_of f.links (name_of r) ∙ ap (option_map row_of_link) none in
    let more = len-insert names_total (rows_of f.links) (name_of r) r
    ∙ ap (λ (at : Option Row). cond (is_some at) (maps.len (rows_of f.links)) (maps.len (rows_of f.links) + 1)) there in
    omega (arith, table.few, more, len-rows_of f.links are.rising)

-- what was taken out
pub table-removed : (old new : Filing) (name : StateName) (result : Option Row)
    → result ≡ option_map row_of_link (row_at name_cmp (key_of name_of) old.links name) → IfNone result (new ≡ old)
    → IfSome result (λ r. LosesRow old new r)
    → AreFiled old → table_of new ≡ with_row (table_of old) name None
table-removed old new name None former same loses are =
    ap table_of same ∙ sym (without_none (table_of old) name (get-rows_of old.links name ∙ sym former))
table-removed old new name (Some r) former same loses are =
    let named = found_name old.links name r
    (found old.links name r (row_at name_cmp (key_of name_of) old.links name) (λ i. row_at name_cmp (key_of name_of) old.links name) former) in
    table-loses old new r loses (names-apart old are) ∙ ap (λ n. with_row (table_of old) n None) named

-- what was changed
pub table-changed : (old new : Filing) (was r : Row)
    → Some was ≡ option_map row_of_link (row_at name_cmp (key_of name_of) old.links (name_of r)) → ChangesRow old new was r → AreFiled old
    → table_of new ≡ with_row (table_of old) (name_of r) (Some r)
table-changed old new was r former changes are =
    let named = found_name old.links (name_of r) was
    (found old.links (name_of r) was (row_at name_cmp (key_of name_of) old.links (name_of r))
    (λ i. row_at name_cmp (key_of name_of) old.links (name_of r)) former) in
    table-changes old new was r changes (sym named) (names-apart old are)

-- what was put where nothing stood
pub table-put : (old same new : Filing) (r : Row) → same ≡ old → GainsRow same new r → HasNone name_cmp name_of old.links (name_of r)
    → table_of new ≡ with_row (table_of old) (name_of r) (Some r)
table-put old same new r is gains none =
    table-gains old new r (subst (λ (f : Filing). GainsRow f new r) is gains) none
