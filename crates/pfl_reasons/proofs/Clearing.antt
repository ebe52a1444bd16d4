-- The rows are counted whose states a clear names.
use Rattle.std.specs.Prelude.{◌≡◌, ◌≤◌, ◌+◌, ℕ, Bool, true, false, List, ◌∷◌, filter, length, map}
use Rattle.std.proofs.Common.{cond, ◌∙◌, ap, arith, sym}
use Rattle.std.proofs.lemmas.List.{length-map}
use Rattle.std.proofs.lemmas.List.Sums.{count_by-le-length, length-filter}
use Rattle.pfl_base.specs.declared.state_name.StateName.{StateName}
use Rattle.pfl_edits.specs.Maps as maps
use Rattle.pfl_edits.proofs.ForCallers.{len-entries}
use Rattle.pfl_track.specs.declared.state.State.{State}
use Rattle.pfl_world.specs.table.declared.row.Row.{Row}
use Rattle.pfl_world.specs.table.Tables.{States}
use Rattle.pfl_reasons.specs.Records.{is_named}

-- as many of these rows are cleared
abbrev pub count_of : ℕ → ℕ → List Row → ℕ
count_of creator bound rows = length (filter (is_named creator bound) (map (λ r. r.state.name) rows))

-- one row after another
pub count-one : (creator bound : ℕ) (rows : List Row) (r : Row) (rest : List Row) → rows ≡ r ∷ rest → (b : Bool)
    → b ≡ is_named creator bound r.state.name → count_of creator bound rows ≡ cond b 1 0 + count_of creator bound rest
count-one creator bound rows r rest steps b is = ap (count_of creator bound) steps ∙ by (is_named creator bound r.state.name)
    ∙ ap (λ (c : Bool). cond c 1 0 + count_of creator bound rest) (sym is)
  where
    names : List StateName
    names = map (λ (q : Row). q.state.name) rest

    by : (c : Bool) → length (cond c (r.state.name ∷ filter (is_named creator bound) names) (filter (is_named creator bound) names))
        ≡ cond c 1 0 + length (filter (is_named creator bound) names)
    by true = omega arith
    by false = omega arith

-- no more are cleared than there are
pub few-cleared : (creator bound : ℕ) (m : States) → length (filter (is_named creator bound) (maps.keys m)) ≤ maps.len m
few-cleared creator bound m =
    let counted = length-filter (is_named creator bound) (maps.keys m) in
    let few = count_by-le-length (is_named creator bound) (maps.keys m) in
    let keys = length-map (maps.entries m) (λ (e : StateName × State). e.0) in
    omega (arith, counted, few, keys, len-entries m)
