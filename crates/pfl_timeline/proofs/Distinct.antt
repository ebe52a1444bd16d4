-- Lists of branches under names of their own, one longer or one shorter.
use Rattle.std.specs.Prelude.{◌≡◌, ◌+◌, ℕ, Bool, true, false, not, List, [], ◌∷◌, ◌++◌, length, map, filter, find, Option, Some, None, is_some, refl}
use Rattle.std.specs.List.{AllByRecursion, IsDistinct}
use Rattle.std.proofs.Common.{cond, sym, ◌∙◌, ap, subst, arith, length-append}
use Rattle.std.proofs.lemmas.Bool.{both_ways}
use Rattle.std.proofs.lemmas.List.{map-append}
use Rattle.std.proofs.lemmas.Slice.Eq.{bytes_eq-Decides}
use Rattle.pfl_base.proofs.ForCallers.{each-filter, each-weaker}
use Rattle.pfl_edits.proofs.ForCallers.{some_is_none}
use Rattle.pfl_language.specs.BranchWords.{same_name}
use Rattle.pfl_timeline.specs.Timelines.{Branch}

-- a name is itself
pub itself : (a : List ℕ) → same_name a a ≡ true
itself a = (bytes_eq-Decides a a).1 refl

-- names that differ one way differ the other way
pub differ : (a b : List ℕ) → same_name a b ≡ false → same_name b a ≡ false
differ a b apart =
    elim (same_name b a) as (λ t. same_name b a ≡ t → t ≡ false) [
      | true ↦ λ is. absurd (both_ways (same_name a b) apart ((bytes_eq-Decides a b).1 (sym ((bytes_eq-Decides b a).0 is))))
      | false ↦ λ is. refl
    ] refl

abbrev pub names : List Branch → List (List ℕ)
names bs = map (λ b. b.name) bs

-- the branch has the name
abbrev pub called : List ℕ → Branch → Bool
called name b = same_name b.name name

-- all before, and one after
pub all_behind : {X : Type 0} (P : X → Type 0) (xs : List X) (x : X) → AllByRecursion P xs → P x → AllByRecursion P (xs ++ x ∷ [])
all_behind P [] x all is = (is, tt)
all_behind P (y ∷ xs) x all is = (all.0, all_behind P xs x all.1 is)

-- ---- one longer

-- names that no branch has
pub none_called : (name : List ℕ) (bs : List Branch) → find (called name) bs ≡ None → AllByRecursion (λ n. same_name n name ≡ false) (names bs)
none_called name [] none = tt
none_called name (b ∷ bs) none =
    elim (same_name b.name name) as (λ t. cond t (Some b) (find (called name) bs) ≡ None
    → (t ≡ false) × AllByRecursion (λ n. same_name n name ≡ false) (names bs)) [
      | true ↦ λ some. absurd (some_is_none b some)
      | false ↦ λ rest. (refl, none_called name bs rest)
    ] none

apart_behind : (m name : List ℕ) (ns : List (List ℕ)) → AllByRecursion (λ n. same_name m n ≡ false) ns → same_name m name ≡ false
    → AllByRecursion (λ n. same_name m n ≡ false) (ns ++ name ∷ [])
apart_behind m name ns all is = all_behind (λ n. same_name m n ≡ false) ns name all is

distinct_names : (name : List ℕ) (ns : List (List ℕ)) → AllByRecursion (λ n. same_name n name ≡ false) ns → IsDistinct same_name ns
    → IsDistinct same_name (ns ++ name ∷ [])
unfolding IsDistinct
distinct_names name [] new distinct = (tt, tt)
distinct_names name (n ∷ ns) new distinct = (apart_behind n name ns distinct.0 new.0, distinct_names name ns new.1 distinct.1)

-- a branch after others, none of which has its name
pub distinct_behind : (b : Branch) (bs : List Branch) → find (called b.name) bs ≡ None → IsDistinct same_name (names bs)
    → IsDistinct same_name (names (bs ++ b ∷ []))
distinct_behind b bs none distinct =
    subst (IsDistinct same_name) (sym (map-append (λ (c : Branch). c.name) bs (b ∷ [])))
    (distinct_names b.name (names bs) (none_called b.name bs none) distinct)

pub no_some : {X : Type 0} (o : Option X) → is_some o ≡ false → o ≡ None
no_some None is = refl
no_some (Some x) is = absurd cc

-- ---- one shorter

-- all but those of the name
abbrev pub others : List ℕ → List Branch → List Branch
others name bs = filter (λ c. not (same_name c.name name)) bs

module _ (name : List ℕ) where
  -- what holds of all holds of those that stay
  pub all_others : (P : Branch → Type 0) (bs : List Branch) → AllByRecursion P bs → AllByRecursion P (others name bs)
  all_others P bs all = each-filter P (λ c. not (same_name c.name name)) bs all

  apart_others : (m : List ℕ) (bs : List Branch) → AllByRecursion (λ n. same_name m n ≡ false) (names bs)
      → AllByRecursion (λ n. same_name m n ≡ false) (names (others name bs))
  apart_others m [] all = tt
  apart_others m (b ∷ bs) all =
      elim (same_name b.name name) as (λ t. AllByRecursion (λ n. same_name m n ≡ false) (names (cond (not t) (b ∷ others name bs) (others name bs)))) [
        | true ↦ apart_others m bs all.1
        | false ↦ (all.0, apart_others m bs all.1)
      ]

  pub distinct_others : (bs : List Branch) → IsDistinct same_name (names bs) → IsDistinct same_name (names (others name bs))
  unfolding IsDistinct
  distinct_others [] distinct = tt
  distinct_others (b ∷ bs) distinct =
      elim (same_name b.name name) as (λ t. IsDistinct same_name (names (cond (not t) (b ∷ others name bs) (others name bs)))) [
        | true ↦ distinct_others bs distinct.1
        | false ↦ (apart_others b.name bs distinct.0, distinct_others bs distinct.1)
      ]

  -- where none has the name, all stay
  pub all_stay : (bs : List Branch) → AllByRecursion (λ n. same_name n name ≡ false) (names bs) → others name bs ≡ bs
  all_stay [] apart = refl
  all_stay (b ∷ bs) apart =
      ap (λ t. cond (not t) (b ∷ others name bs) (others name bs)) apart.0 ∙ ap (λ cs. b ∷ cs) (all_stay bs apart.1)

-- names that differ from one, which differs from them
all_differ : (m : List ℕ) (ns : List (List ℕ)) → AllByRecursion (λ n. same_name m n ≡ false) ns → AllByRecursion (λ n. same_name n m ≡ false) ns
all_differ m ns all = each-weaker (λ n. same_name m n ≡ false) (λ n. same_name n m ≡ false) (λ n. differ m n) ns all

name_there : (P : List ℕ → Type 0) (front : List Branch) (b : Branch) (rest : List Branch) → AllByRecursion P (names (front ++ b ∷ rest)) → P b.name
name_there P [] b rest all = all.0
name_there P (c ∷ front) b rest all = name_there P front b rest all.1

-- of branches under names of their own, one goes by its name
pub one_goes : (front : List Branch) (b : Branch) (rest : List Branch) → IsDistinct same_name (names (front ++ b ∷ rest))
    → others b.name (front ++ b ∷ rest) ≡ front ++ rest
unfolding IsDistinct
one_goes [] b rest distinct =
    ap (λ t. cond (not t) (b ∷ others b.name rest) (others b.name rest)) (itself b.name) ∙ all_stay b.name rest (all_differ b.name (names rest) distinct.0)
one_goes (c ∷ front) b rest distinct =
    ap (λ t. cond (not t) (c ∷ others b.name (front ++ b ∷ rest)) (others b.name (front ++ b ∷ rest)))
    (name_there (λ n. same_name c.name n ≡ false) front b rest distinct.0)
    ∙ ap (λ cs. c ∷ cs) (one_goes front b rest distinct.1)

-- a branch between others
pub record Between (bs : List Branch) (b : Branch) : Type 0 where
  pub front : List Branch
  pub rest : List Branch
  pub whole : bs ≡ front ++ b ∷ rest

-- the branch that a search finds stands between others
pub between : (p : Branch → Bool) (bs : List Branch) (b : Branch) → find p bs ≡ Some b → Between bs b
between p [] b is = absurd (some_is_none b (sym is))
between p (c ∷ bs) b is =
    elim (p c) as (λ t. cond t (Some c) (find p bs) ≡ Some b → Between (c ∷ bs) b) [
      | true ↦ λ here. let same : c ≡ b = cc in record { front = []; rest = bs; whole = ap (λ (d : Branch). d ∷ bs) same }
      | false ↦ λ later. let k = between p bs b later in record { front = c ∷ k.front; rest = k.rest; whole = ap (λ (cs : List Branch). c ∷ cs) k.whole }
    ] is

-- one branch less
pub one_less : (p : Branch → Bool) (bs : List Branch) (b : Branch) → find p bs ≡ Some b → IsDistinct same_name (names bs)
    → length (others b.name bs) + 1 ≡ length bs
one_less p bs b is distinct =
    let k = between p bs b is in
    let gone : others b.name bs ≡ k.front ++ k.rest =
    ap (others b.name) k.whole ∙ one_goes k.front b k.rest (subst (λ cs. IsDistinct same_name (names cs)) k.whole distinct) in
    omega (arith, ap length gone, ap length k.whole, length-append k.front k.rest, length-append k.front (b ∷ k.rest))
