-- The marks of the queues, one by one.
use Rattle.std.proofs.Common.{◌≡◌, ℕ, ◌+◌, Bool, true, false, cond, not, ◌&&◌, T, List, [], ◌∷◌, map, Some, refl, sym, ◌∙◌, ap, subst, arith}
use Rattle.std.specs.Prelude.{◌==◌}
use Rattle.std.specs.List.{AllByRecursion, IsDistinct, sum_by}
use Rattle.std.specs.declared.cmp.Ordering.{Ordering}
use Rattle.std.specs.declared.cmp.Ordering.TheVariants.{Less, Equal, Greater}
use Rattle.std.specs.Ordering.{eq_by_cmp, is_lt, is_eq}
use Rattle.std.specs.FinMap.Entries.{find, where_key, is_sorted, below_all}
use Rattle.std.proofs.lemmas.Bool.Decides.{nat_tests}
use Rattle.std.proofs.lemmas.List.Sums.{sum_by-cons}
use Rattle.pfl_base.specs.declared.state_name.StateName.{StateName}
use Rattle.pfl_base.specs.Names.{name_cmp, is_name}
use Rattle.pfl_base.proofs.ForCallers.{names_total, names_exact, is_name-same}
use Rattle.pfl_edits.specs.Maps as maps
use Rattle.pfl_edits.specs.Maps.{Map, entries, entries_sorted}
use Rattle.pfl_edits.proofs.ForCallers.{get-entries, same_key, own_key, some_is_none}
use Rattle.pfl_queue.specs.declared.Mark.{Mark}
use Rattle.pfl_queue.specs.Queues.{Queue, IsQueue}

abbrev Filed : Type 0
Filed = StateName × Mark

less_is : (r : Ordering) → T (is_lt r) → r ≡ Less
less_is Less t = refl
less_is Equal t = absurd t
less_is Greater t = absurd t

left : (a b : Bool) → T (a && b) → T a
left true b t = tt
left false b t = t

right : (a b : Bool) → T (a && b) → T b
right true b t = t
right false b t = absurd t

-- a name below another is not that one
below-differs : (a b : StateName) → name_cmp a b ≡ Less → a ≡ b → ⊥
below-differs a b less same = subst T (sym (own_key names_total names_exact (λ n. n) a) ∙ ap is_eq (ap (name_cmp a) same ∙ less)) tt

-- the names rise
abbrev Rise : List Filed → Type 0
Rise [] = Unit {0}
Rise (e ∷ es) = AllByRecursion (λ f. name_cmp e.0 f.0 ≡ Less) es × Rise es

all_above : (n : StateName) (es : List Filed) → T (below_all name_cmp n es) → AllByRecursion (λ f. name_cmp n f.0 ≡ Less) es
all_above n [] t = tt
all_above n (e ∷ es) t = (less_is (name_cmp n e.0) (left _ _ t), all_above n es (right _ _ t))

rise : (es : List Filed) → T (is_sorted name_cmp es) → Rise es
rise [] t = tt
rise (e ∷ es) t = (all_above e.0 es (left _ _ t), rise es (right _ _ t))

each_found : (es : List Filed) → Rise es → AllByRecursion (λ e. find name_cmp e.0 es ≡ Some e.1) es
each_found [] r = tt
each_found (e ∷ es) r = (ap (λ b. cond b (Some e.1) (find name_cmp e.0 es)) (own_key names_total names_exact (λ n. n) e.0), later es r.0 (each_found es r.1))
  where
    later : (fs : List Filed) → AllByRecursion (λ f. name_cmp e.0 f.0 ≡ Less) fs → AllByRecursion (λ f. find name_cmp f.0 es ≡ Some f.1) fs
        → AllByRecursion (λ f. find name_cmp f.0 (e ∷ es) ≡ Some f.1) fs
    later [] above all = tt
    later (f ∷ fs) above all = (
      elim (eq_by_cmp name_cmp f.0 e.0) as (λ b. eq_by_cmp name_cmp f.0 e.0 ≡ b → cond b (Some e.1) (find name_cmp f.0 es) ≡ Some f.1) [
        | true ↦ λ t. absurd (below-differs e.0 f.0 above.0 (sym (same_key names_total names_exact (λ n. n) f.0 e.0 t)))
        | false ↦ λ t. all.0
      ] refl,
      later fs above.1 all.1,
    )

abbrev Found : Map name_cmp Mark → Filed → Type 0
Found m e = maps.get m e.0 ≡ Some e.1

all_found : (m : Map name_cmp Mark) → AllByRecursion (Found m) (entries m)
all_found m = through (entries m) (each_found (entries m) (rise (entries m) (entries_sorted m)))
  where
    through : (fs : List Filed) → AllByRecursion (λ f. find name_cmp f.0 (entries m) ≡ Some f.1) fs → AllByRecursion (Found m) fs
    through [] all = tt
    through (f ∷ fs) all = (get-entries m f.0 ∙ all.0, through fs all.1)

module _ (q : Queue) (is : IsQueue q) where
  stand : (es : List Filed) → AllByRecursion (Found q.marks) es → AllByRecursion (λ m. maps.get q.marks m.name ≡ Some m) (map (λ e. e.1) es)
  stand [] all = tt
  stand (e ∷ es) all = (ap (maps.get q.marks) (is.filed e.0 e.1 all.0) ∙ all.0, stand es all.1)

  -- each mark stands under its name
  pub values_stand : AllByRecursion (λ m. maps.get q.marks m.name ≡ Some m) (maps.values q.marks)
  values_stand = stand (entries q.marks) (all_found q.marks)

  other_name : (e f : Filed) → Found q.marks e → Found q.marks f → name_cmp e.0 f.0 ≡ Less → is_name e.1.name f.1.name ≡ false
  other_name e f a b less = elim (is_name e.1.name f.1.name) as (λ t. is_name e.1.name f.1.name ≡ t → t ≡ false) [
    | true ↦ λ t. absurd (below-differs e.0 f.0 less (sym (is.filed e.0 e.1 a) ∙ (is_name-same e.1.name f.1.name t ∙ is.filed f.0 f.1 b)))
    | false ↦ λ t. refl
  ] refl

  other_number : (e f : Filed) → Found q.marks e → Found q.marks f → name_cmp e.0 f.0 ≡ Less → (e.1.number == f.1.number) ≡ false
  other_number e f a b less = elim (e.1.number == f.1.number) as (λ t. (e.1.number == f.1.number) ≡ t → t ≡ false) [
    | true ↦ λ t. absurd (below-differs e.0 f.0 less (is.one_number e.0 f.0 e.1 f.1 a b (grind (arith, nat_tests))))
    | false ↦ λ t. refl
  ] refl

  names_once : (es : List Filed) → Rise es → AllByRecursion (Found q.marks) es → IsDistinct is_name (map (λ m. m.name) (map (λ e. e.1) es))
  unfolding IsDistinct
  names_once [] r all = tt
  names_once (e ∷ es) r all = (later es r.0 all.1, names_once es r.1 all.1)
    where
      later : (fs : List Filed) → AllByRecursion (λ f. name_cmp e.0 f.0 ≡ Less) fs → AllByRecursion (Found q.marks) fs
          → AllByRecursion (λ n. is_name e.1.name n ≡ false) (map (λ m. m.name) (map (λ e. e.1) fs))
      later [] above found = tt
      later (f ∷ fs) above found = (other_name e f all.0 found.0 above.0, later fs above.1 found.1)

  numbers_once : (es : List Filed) → Rise es → AllByRecursion (Found q.marks) es → IsDistinct (λ a b. a == b) (map (λ m. m.number) (map (λ e. e.1) es))
  unfolding IsDistinct
  numbers_once [] r all = tt
  numbers_once (e ∷ es) r all = (later es r.0 all.1, numbers_once es r.1 all.1)
    where
      later : (fs : List Filed) → AllByRecursion (λ f. name_cmp e.0 f.0 ≡ Less) fs → AllByRecursion (Found q.marks) fs
          → AllByRecursion (λ n. (e.1.number == n) ≡ false) (map (λ m. m.number) (map (λ e. e.1) fs))
      later [] above found = tt
      later (f ∷ fs) above found = (other_number e f all.0 found.0 above.0, later fs above.1 found.1)

  pub one_name_each : IsDistinct is_name (map (λ m. m.name) (maps.values q.marks))
  one_name_each = names_once (entries q.marks) (rise (entries q.marks) (entries_sorted q.marks)) (all_found q.marks)

  pub one_number_each : IsDistinct (λ a b. a == b) (map (λ m. m.number) (maps.values q.marks))
  one_number_each = numbers_once (entries q.marks) (rise (entries q.marks) (entries_sorted q.marks)) (all_found q.marks)

-- A mark less.

abbrev others : StateName → StateName → Bool
others name n = not (eq_by_cmp name_cmp name n)

none_less : (name : StateName) (es : List Filed) → AllByRecursion (λ f. name_cmp name f.0 ≡ Less) es → where_key name_cmp (others name) es ≡ es
none_less name [] above = refl
none_less name (e ∷ es) above =
    ap (λ r. cond (not (is_eq r)) (e ∷ where_key name_cmp (others name) es) (where_key name_cmp (others name) es)) above.0
    ∙ ap (λ fs. e ∷ fs) (none_less name es above.1)

sum_less : (f : Mark → ℕ) (name : StateName) (m : Mark) (es : List Filed) → Rise es → find name_cmp name es ≡ Some m
    → sum_by f (map (λ e. e.1) (where_key name_cmp (others name) es)) + f m ≡ sum_by f (map (λ e. e.1) es)
sum_less f name m [] r is = absurd (some_is_none m (sym is))
sum_less f name m (e ∷ es) r is =
    elim (eq_by_cmp name_cmp name e.0) as (λ b. eq_by_cmp name_cmp name e.0 ≡ b → cond b (Some e.1) (find name_cmp name es) ≡ Some m
    → sum_by f (map (λ e. e.1) (cond (not b) (e ∷ where_key name_cmp (others name) es) (where_key name_cmp (others name) es))) + f m
    ≡ sum_by f (map (λ e. e.1) (e ∷ es))) [
      | true ↦ λ t s.
          let same : e.1 ≡ m = cc in
          let here = same_key names_total names_exact (λ n. n) name e.0 t in
          let rest = none_less name es (subst (λ (n : StateName). AllByRecursion (λ f. name_cmp n f.0 ≡ Less) es) (sym here) r.0) in
          omega (arith, ap (λ (fs : List Filed). sum_by f (map (λ e. e.1) fs)) rest, sum_by-cons f e.1 (map (λ e. e.1) es), ap f same)
      | false ↦ λ t s. omega (
        arith,
        sum_less f name m es r.1 s,
        sum_by-cons f e.1 (map (λ e. e.1) es),
        sum_by-cons f e.1
            (map (λ e. e.1) (where_key name_cmp (others name) es)),
      )
    ] refl is

pub sum_without : (f : Mark → ℕ) (marks : Map name_cmp Mark) (m : Mark) (name : StateName) → maps.get marks name ≡ Some m
    → sum_by f (maps.values (maps.remove marks name)) + f m ≡ sum_by f (maps.values marks)
unfolding maps.remove maps.retain_keys maps.entries maps.get
sum_without f marks m name is = sum_less f name m (entries marks) (rise (entries marks) (entries_sorted marks)) is
