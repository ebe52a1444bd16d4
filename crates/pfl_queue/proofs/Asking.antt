-- Names that are asked for: what their index finds, and what it has when a name comes or goes.
use Rattle.std.specs.Prelude.{◌≡◌, ◌<◌, ℕ, zero, suc, Bool, true, false, ◌||◌, List, [], ◌∷◌, length, take, drop, Some, None, is_some, slice_get}
use Rattle.std.specs.Prelude.{slice_set, get_or, refl, Option}
use Rattle.std.specs.List.{AllByRecursion, IsDistinct, insert, list_any, remove}
use Rattle.std.specs.Option.{option_map}
use Rattle.std.specs.Cmp.{eq_by_cmp_equiv}
use Rattle.std.specs.Ordering.{eq_by_cmp}
use Rattle.std.proofs.Common.{cond, ◌∙◌, ap, sym, subst}
use Rattle.std.proofs.Math.Seq.{split_at}
use Rattle.std.proofs.lemmas.List.{take-append-drop}
use Rattle.pfl_base.specs.declared.state_name.StateName.{StateName}
use Rattle.pfl_base.specs.Names.{name_cmp, is_name}
use Rattle.pfl_base.proofs.ForCallers.{names_total, is_name-same, apart}
use Rattle.pfl_edits.specs.Maps as maps
use Rattle.pfl_edits.specs.Maps.{Map}
use Rattle.pfl_edits.proofs.ForCallers.{row_at, Distinct, Distinct-without}
use Rattle.pfl_containers.specs.declared.by_name.ByName.{ByName}
use Rattle.pfl_containers.specs.NameKeys.{by_name_cmp}
use Rattle.pfl_containers.specs.SlotIndexes.{IsIndexOf}
use Rattle.pfl_containers.specs.inner.NameOrder.{by_name_total, by_name_exact}
use Rattle.pfl_containers.proofs.ForCallers.{map_of-none, made-get, made-len, made-empty, made-with, made-without}
use Rattle.pfl_queue.specs.inner.Asked.{as_key}
use Rattle.pfl_queue.proofs.Keeping.{same_other_way}

-- keys are the same where names are
pub same_keys : (a b : StateName) → eq_by_cmp by_name_cmp (as_key a) (as_key b) ≡ is_name a b
same_keys a b = elim (is_name a b) as (λ t. is_name a b ≡ t → eq_by_cmp name_cmp a b ≡ t) [
  | true ↦ λ t. ap (eq_by_cmp name_cmp a) (sym (is_name-same a b t)) ∙ (eq_by_cmp_equiv names_total).refl a
  | false ↦ λ t. apart b a (same_other_way b a ∙ t)
] refl

-- a scan by the keys finds what a scan of the names finds
pub asked-found : (names : List StateName) (name : StateName) → is_some (row_at by_name_cmp as_key names (as_key name)) ≡ list_any (is_name name) names
asked-found [] name = refl
asked-found (n ∷ names) name =
    ap (λ b. is_some (cond b (Some n) (row_at by_name_cmp as_key names (as_key name)))) (same_keys name n) ∙ through (is_name name n) (asked-found names name)
  where
    through : (b : Bool) → is_some (row_at by_name_cmp as_key names (as_key name)) ≡ list_any (is_name name) names
        → is_some (cond b (Some n) (row_at by_name_cmp as_key names (as_key name))) ≡ (b || list_any (is_name name) names)
    through true later = refl
    through false later = later

none_of : (n : StateName) (names : List StateName) → AllByRecursion (λ y. is_name n y ≡ false) names → row_at by_name_cmp as_key names (as_key n) ≡ None
none_of n [] all = refl
none_of n (y ∷ names) all = ap (λ b. cond b (Some y) (row_at by_name_cmp as_key names (as_key n))) (same_keys n y ∙ all.0) ∙ none_of n names all.1

-- names of which none stands twice have keys of which none does
pub keys_apart : (names : List StateName) → IsDistinct is_name names → Distinct by_name_cmp as_key names
unfolding IsDistinct
keys_apart [] once = tt
keys_apart (n ∷ names) once = (none_of n names once.0, keys_apart names once.1)

abbrev HasKeys : List StateName → Map by_name_cmp (Unit {0}) → Type 0
HasKeys = IsIndexOf by_name_cmp as_key (λ _. tt)

is_some-mapped : {X Y : Type 0} (f : X → Y) (o : Option X) → is_some (option_map f o) ≡ is_some o
is_some-mapped f None = refl
is_some-mapped f (Some x) = refl

-- a key is found where its name is asked for
pub asked-test : (listed : List StateName) (m : Map by_name_cmp (Unit {0})) (name : StateName) → HasKeys listed m
    → is_some (maps.get m (as_key name)) ≡ list_any (is_name name) listed
asked-test listed m name is =
    ap is_some (made-get by_name_total by_name_exact as_key (λ _. tt) listed m (as_key name) is)
    ∙ (is_some-mapped (λ (n : StateName). tt) (row_at by_name_cmp as_key listed (as_key name)) ∙ asked-found listed name)

-- there are as many keys as names
pub asked-len : (listed : List StateName) (m : Map by_name_cmp (Unit {0})) → HasKeys listed m → maps.len m ≡ length listed
asked-len = made-len by_name_total by_name_exact as_key (λ _. tt)

-- no names
pub asked-none : (list : List (ByName × Unit {0})) → list ≡ [] → HasKeys [] (maps.from_sorted list)
asked-none list none =
    subst (HasKeys []) (sym (ap (λ (es : List (ByName × Unit {0})). maps.from_sorted es) none ∙ map_of-none by_name_cmp))
    (made-empty by_name_total by_name_exact as_key (λ _. tt))

-- a name more
pub asked-more : (listed : List StateName) (i : ℕ) (name : StateName) (m : Map by_name_cmp (Unit {0})) → HasKeys listed m
    → IsDistinct is_name (insert listed i name) → HasKeys (insert listed i name) (maps.insert m (as_key name) tt)
asked-more listed i name m is once =
    let front = take i listed in
    let back = drop i listed in
    made-with by_name_total by_name_exact as_key (λ _. tt) front name back m
    (subst (λ (xs : List StateName). HasKeys xs m) (sym (take-append-drop i listed)) is)
    (Distinct-without by_name_total by_name_exact as_key front name back (keys_apart (insert listed i name) once)).0

-- a name less
pub asked-less : (listed : List StateName) (i : ℕ) (d : StateName) (m : Map by_name_cmp (Unit {0})) → i < length listed → HasKeys listed m
    → HasKeys (remove listed i) (maps.remove m (as_key (get_or listed i d)))
asked-less listed i d m within is =
    made-without by_name_total by_name_exact as_key (λ _. tt) (take i listed) (get_or listed i d) (drop (suc i) listed) m
    (subst (λ (xs : List StateName). HasKeys xs m) (split_at listed i d within) is)

-- what stands at a position is taken out, and another name put there
pub insert-removed : {X : Type 0} (xs : List X) (i : ℕ) (x y : X) → slice_get xs i ≡ Some x → insert (remove xs i) i y ≡ slice_set xs i y
insert-removed [] i x y at = absurd (cc)
insert-removed (z ∷ xs) zero x y at = refl
insert-removed (z ∷ xs) (suc i) x y at = ap (λ (ys : List _). z ∷ ys) (insert-removed xs i x y at)
