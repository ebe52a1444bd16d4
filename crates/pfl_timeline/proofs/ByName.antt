-- Branches that stand under their names: what a map of them finds by a name, writes there, takes out and puts last.
use Rattle.std.specs.Prelude.{◌≡◌, ℕ, true, false, List, [], ◌∷◌, ◌++◌, map, find, Option, Some, None, is_some, refl}
use Rattle.std.specs.Option.{option_map}
use Rattle.std.specs.Map.{keys_of, values_of, lookup, set_value, remove_entry}
use Rattle.std.proofs.Common.{cond, sym, ◌∙◌, ap, subst}
use Rattle.std.proofs.lemmas.Cmp.{nat_list_eq_equiv}
use Rattle.indexmap.specs.IndexMap.{insert_entry}
use Rattle.pfl_language.specs.BranchWords.{same_name}
use Rattle.pfl_timeline.specs.Kept.{by_name, StandByName, AreKept}
use Rattle.pfl_timeline.specs.Rooted.{Rooted}
use Rattle.pfl_timeline.specs.Timelines.{Branch}

abbrev pub branches_of : List Rooted → List Branch
branches_of rs = map (λ r. r.branch) rs

-- the first branch of the name
abbrev pub named_in : List ℕ → List Branch → Option Branch
named_in name bs = find (λ b. same_name b.name name) bs

-- two words are one word whichever is asked
turned : (a b : List ℕ) → same_name a b ≡ same_name b a
turned a b = nat_list_eq_equiv.symm a b

some_none : {X : Type 0} (x : X) → None ≡ Some x → ⊥
some_none x is = let wrong : false ≡ true = ap is_some is in absurd cc

-- what a map of them finds at the name is the first of them that has it
find_of-lookup : (name : List ℕ) (rs : List Rooted) (o : Option Rooted) → lookup (same_name name) (by_name rs) ≡ o
    → named_in name (branches_of rs) ≡ option_map (λ r. r.branch) o
find_of-lookup name rs o is = by rs ∙ ap (option_map (λ (r : Rooted). r.branch)) is
  where
    by : (xs : List Rooted) → named_in name (branches_of xs) ≡ option_map (λ (r : Rooted). r.branch) (lookup (same_name name) (by_name xs))
    by [] = refl
    by (x ∷ xs) =
        ap (λ t. cond t (Some x.branch) (named_in name (branches_of xs))) (turned x.branch.name name)
        ∙ (elim (same_name name x.branch.name) as
        (λ t. cond t (Some x.branch) (named_in name (branches_of xs))
        ≡ option_map (λ (r : Rooted). r.branch) (cond t (Some x) (lookup (same_name name) (by_name xs)))) [
          | true ↦ refl
          | false ↦ by xs
        ])

-- at the name one branch stands between others
pub record Spot (name : List ℕ) (es : List (List ℕ × Rooted)) (old : Rooted) : Type 0 where
  pub front : List Rooted
  pub rest : List Rooted
  pub whole : es ≡ by_name (front ++ old ∷ rest)
  pub found : named_in name (branches_of (front ++ old ∷ rest)) ≡ Some old.branch
  pub written : (new : Rooted) → new.branch.name ≡ old.branch.name → set_value (same_name name) es new ≡ by_name (front ++ new ∷ rest)
  pub removed : remove_entry (same_name name) es ≡ by_name (front ++ rest)

spot_in : (name : List ℕ) (rs : List Rooted) (old : Rooted) → lookup (same_name name) (by_name rs) ≡ Some old → Spot name (by_name rs) old
spot_in name [] old is = absurd (some_none old is)
spot_in name (r ∷ rs) old is =
    elim (same_name name r.branch.name) as (λ t. same_name name r.branch.name ≡ t
    → cond t (Some r) (lookup (same_name name) (by_name rs)) ≡ Some old → Spot name (by_name (r ∷ rs)) old) [
      | true ↦ λ passes here.
          let same : r ≡ old = cc in
          record {
            front = [];
            rest = rs;
            whole = ap (λ (x : Rooted). by_name (x ∷ rs)) same;
            found = ap (λ t. cond t (Some old.branch) (named_in name (branches_of rs))) (turned old.branch.name name
                ∙ ap (λ (x : Rooted). same_name name x.branch.name) (sym same) ∙ passes);
            written = λ new called. ap
                (λ t. cond t ((r.branch.name, new) ∷ by_name rs) ((r.branch.name, r) ∷ set_value (same_name name) (by_name rs) new)) passes
                ∙ ap (λ n. (n, new) ∷ by_name rs) (ap (λ (x : Rooted). x.branch.name) same ∙ sym called);
            removed = ap (λ t. cond t (by_name rs) ((r.branch.name, r) ∷ remove_entry (same_name name) (by_name rs))) passes;
          }
      | false ↦ λ fails behind.
          let later = spot_in name rs old behind in
          record {
            front = r ∷ later.front;
            rest = later.rest;
            whole = ap (λ es. (r.branch.name, r) ∷ es) later.whole;
            found = ap (λ t. cond t (Some r.branch) (named_in name (branches_of (later.front ++ old ∷ later.rest))))
                (turned r.branch.name name ∙ fails) ∙ later.found;
            written = λ new called. ap
                (λ t. cond t ((r.branch.name, new) ∷ by_name rs) ((r.branch.name, r) ∷ set_value (same_name name) (by_name rs) new)) fails
                ∙ ap (λ es. (r.branch.name, r) ∷ es) (later.written new called);
            removed = ap (λ t. cond t (by_name rs) ((r.branch.name, r) ∷ remove_entry (same_name name) (by_name rs))) fails
                ∙ ap (λ es. (r.branch.name, r) ∷ es) later.removed;
          }
    ] refl is

-- what a test for the name says of what is there
pub none_there : {X : Type 0} (o : Option X) → is_some o ≡ false → None ≡ o
none_there None is = refl
none_there (Some x) is = absurd cc

pub some_there : {X : Type 0} (o : Option X) → is_some o ≡ true → (x : X) × (Some x ≡ o)
some_there None is = absurd cc
some_there (Some x) is = (x, refl)

-- the values of branches that stand under their names are the branches
pub values-by_name : (rs : List Rooted) → values_of (by_name rs) ≡ rs
values-by_name [] = refl
values-by_name (r ∷ rs) = ap (λ (xs : List Rooted). r ∷ xs) (values-by_name rs)

pub values_are : (es : List (List ℕ × Rooted)) (rs : List Rooted) → es ≡ by_name rs → values_of es ≡ rs
values_are es rs is = ap values_of is ∙ values-by_name rs

-- and the keys are their names
pub keys_are : (es : List (List ℕ × Rooted)) (rs : List Rooted) → es ≡ by_name rs → keys_of es ≡ map (λ b. b.name) (branches_of rs)
keys_are es rs is = ap keys_of is ∙ by rs
  where
    by : (xs : List Rooted) → keys_of (by_name xs) ≡ map (λ (b : Branch). b.name) (branches_of xs)
    by [] = refl
    by (x ∷ xs) = ap (λ ns. x.branch.name ∷ ns) (by xs)

pub stand_by : (es : List (List ℕ × Rooted)) (rs : List Rooted) → es ≡ by_name rs → AreKept rs → StandByName es
stand_by es rs is kept = record {
  named = is ∙ ap by_name (sym (values_are es rs is));
  kept = subst AreKept (sym (values_are es rs is)) kept;
}

pub spot : (name : List ℕ) (es : List (List ℕ × Rooted)) (old : Rooted) → StandByName es → Some old ≡ lookup (same_name name) es → Spot name es old
spot name es old stand is =
    subst (λ fs. Spot name fs old) (sym stand.named) (spot_in name (values_of es) old (ap (lookup (same_name name)) (sym stand.named) ∙ sym is))

-- the branch of the name
pub found_by : (name : List ℕ) (es : List (List ℕ × Rooted)) (o : Option Rooted) → StandByName es → o ≡ lookup (same_name name) es
    → named_in name (branches_of (values_of es)) ≡ option_map (λ r. r.branch) o
found_by name es o stand is = find_of-lookup name (values_of es) o (ap (lookup (same_name name)) (sym stand.named) ∙ sym is)

-- a branch under a name that no other has goes last
pub put_last : (name : List ℕ) (rs : List Rooted) (new : Rooted) → new.branch.name ≡ name → lookup (same_name name) (by_name rs) ≡ None
    → insert_entry same_name (by_name rs) name new ≡ by_name (rs ++ new ∷ [])
put_last name rs new called none = by rs none
  where
    by : (xs : List Rooted) → lookup (same_name name) (by_name xs) ≡ None → insert_entry same_name (by_name xs) name new ≡ by_name (xs ++ new ∷ [])
    by [] is = ap (λ n. (n, new) ∷ []) (sym called)
    by (x ∷ xs) is =
        elim (same_name name x.branch.name) as (λ t. cond t (Some x) (lookup (same_name name) (by_name xs)) ≡ None
        → cond t ((x.branch.name, new) ∷ by_name xs) ((x.branch.name, x) ∷ insert_entry same_name (by_name xs) name new) ≡ by_name (x ∷ xs ++ new ∷ [])) [
          | true ↦ λ some. absurd (some_none x (sym some))
          | false ↦ λ rest. ap (λ es. (x.branch.name, x) ∷ es) (by xs rest)
        ] is
