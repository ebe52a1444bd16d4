-- The first name of a creator up to a bound: the least name of the creator's, or the first above that, if it is one.
use Rattle.std.specs.Prelude.{◌≡◌, ◌<◌, ◌⊎◌, ℕ, ◌==◌, ◌&&◌, Bool, true, false, nat_le, nat_lt, List, [], ◌∷◌, map, filter, find, Option, Some, None}
use Rattle.std.specs.Prelude.{is_some, if◌then◌else◌, refl}
use Rattle.std.specs.List.{AllByRecursion, slice_get}
use Rattle.std.specs.Option.{option_map, option_and_then}
use Rattle.std.specs.declared.cmp.Ordering.{Ordering}
use Rattle.std.specs.declared.cmp.Ordering.TheVariants.{Less, Equal, Greater}
use Rattle.std.specs.Ordering.{eq_by_cmp, is_lt, is_eq, nat_cmp, ordering_then, ordering_reverse}
use Rattle.std.specs.Cmp.{eq_by_cmp_equiv}
use Rattle.std.specs.FinMap.Entries as entries
use Rattle.std.specs.FinMap.Entries.{is_sorted, below_all}
use Rattle.std.proofs.Common.{cond, T, ◌∙◌, ap, sym, arith, inl, inr}
use Rattle.std.proofs.lemmas.Bool.Decides.{nat_tests}
use Rattle.pfl_base.specs.declared.state_name.StateName.{StateName}
use Rattle.pfl_base.specs.Names.{name_cmp}
use Rattle.pfl_base.proofs.ForCallers.{names_exact, names_total}
use Rattle.pfl_edits.specs.Maps as maps
use Rattle.pfl_edits.specs.Maps.{entries_sorted}
use Rattle.pfl_edits.proofs.ForCallers.{get-entries}
use Rattle.pfl_track.specs.declared.state.State.{State}
use Rattle.pfl_desk.specs.table.Tables.{States, AreStates, state_after}
use Rattle.pfl_desk.specs.Nodes.{Node}
use Rattle.pfl_receive.specs.Receiving.{cleared_names}

left : (a b : Bool) → T (a && b) → T a
left true b t = tt
left false b t = t

right : (a b : Bool) → T (a && b) → T b
right true b t = t
right false b t = absurd t

less_is : (r : Ordering) → T (is_lt r) → r ≡ Less
less_is Less t = refl
less_is Equal t = absurd t
less_is Greater t = absurd t

-- ---- how names lie

-- below, by the creator, or else by the id
Below : StateName → StateName → Type 0
Below a b = (a.creator < b.creator) ⊎ ((a.creator ≡ b.creator) × (a.id < b.id))

below : (a b : StateName) → name_cmp a b ≡ Less → Below a b
unfolding Below
below a b e = by (nat_lt a.creator b.creator) refl (a.creator == b.creator) refl e
  where
    ids : (l : Bool) → nat_lt a.id b.id ≡ l → (q : Bool) → cond l Less (cond q Equal Greater) ≡ Less → a.id < b.id
    ids true is q e = grind (arith, nat_tests)
    ids false is true e = absurd (cc)
    ids false is false e = absurd (cc)

    by : (l : Bool) → nat_lt a.creator b.creator ≡ l → (q : Bool) → (a.creator == b.creator) ≡ q
        → ordering_then (cond l Less (cond q Equal Greater)) (nat_cmp a.id b.id) ≡ Less → Below a b
    by true is q same e = inl (grind (arith, nat_tests))
    by false is true same e = inr (grind (arith, nat_tests), ids (nat_lt a.id b.id) refl (a.id == b.id) e)
    by false is false same e = absurd (cc)

module _ (creator bound : ℕ) where
  abbrev pub least : StateName
  least = record { creator = creator; id = 0 }

  -- a name of the creator up to the bound
  abbrev pub passes : StateName → Bool
  passes k = (k.creator == creator) && nat_le k.id bound

  other : (k : StateName) → (k.creator == creator) ≡ false → passes k ≡ false
  other k e = ap (λ b. b && nat_le k.id bound) e

  late : (k : StateName) → nat_le k.id bound ≡ false → passes k ≡ false
  late k e = by (k.creator == creator)
    where
      by : (b : Bool) → (b && nat_le k.id bound) ≡ false
      by true = e
      by false = refl

  -- the least passes
  least-passes : (k : StateName) → name_cmp least k ≡ Equal → passes k ≡ true
  least-passes k e =
      let same : least ≡ k = names_exact least k e in
      let creators = ap (λ (n : StateName). n.creator) same in
      let ids = ap (λ (n : StateName). n.id) same in
      let one : (k.creator == creator) ≡ true = grind (arith, nat_tests, creators) in
      let two : nat_le k.id bound ≡ true = grind (arith, nat_tests, ids) in
      λ i. one i && two i

  -- a name below it does not
  low : (k : StateName) → name_cmp least k ≡ Greater → passes k ≡ false
  low k e = by (nat_lt creator k.creator) refl (creator == k.creator) refl e
    where
      ids : (l : Bool) → nat_lt 0 k.id ≡ l → (q : Bool) → (0 == k.id) ≡ q → cond l Less (cond q Equal Greater) ≡ Greater → ⊥
      ids true is q same e = absurd (cc)
      ids false is true same e = absurd (cc)
      ids false is false same e = grind (arith, nat_tests)

      by : (l : Bool) → nat_lt creator k.creator ≡ l → (q : Bool) → (creator == k.creator) ≡ q
          → ordering_then (cond l Less (cond q Equal Greater)) (nat_cmp 0 k.id) ≡ Greater → passes k ≡ false
      by true is q same e = absurd (cc)
      by false is true same e = absurd (ids (nat_lt 0 k.id) refl (0 == k.id) refl e)
      by false is false same e = other k (grind (arith, nat_tests))

  beyond : (a : StateName) → passes a ≡ false → a.creator ≡ creator → bound < a.id
  beyond a e own = by (nat_le a.id bound) refl (sym (ap (λ b. b && nat_le a.id bound) same) ∙ e)
    where
      same : (a.creator == creator) ≡ true
      same = grind (arith, nat_tests, own)

      by : (b : Bool) → nat_le a.id bound ≡ b → b ≡ false → bound < a.id
      by true is e = absurd (cc)
      by false is e = grind (arith, nat_tests)

  -- after one above it that does not, none does
  high : (a b : StateName) → Below least a → Below a b → passes a ≡ false → passes b ≡ false
  unfolding Below
  high a b (inl far) (inl more) e = other b (grind (arith, nat_tests))
  high a b (inl far) (inr more) e = other b (let same = more.0 in grind (arith, nat_tests))
  high a b (inr near) (inl more) e = other b (let same = near.0 in grind (arith, nat_tests))
  high a b (inr near) (inr more) e = late b (let less = more.1 in let over = beyond a e (sym near.0) in grind (arith, nat_tests))

  abbrev Entries : Type 0
  Entries = List (StateName × State)

  abbrev names : Entries → List StateName
  names es = map (λ e. e.0) es

  abbrev values : Entries → List State
  values es = map (λ e. e.1) es

  none-high : (a : StateName) (es : Entries) → name_cmp least a ≡ Less → T (below_all name_cmp a es) → passes a ≡ false → filter passes (names es) ≡ []
  none-high a [] l t e = refl
  none-high a (f ∷ es) l t e =
      ap (λ b. cond b (f.0 ∷ filter passes (names es)) (filter passes (names es))) (high a f.0 (below least a l) (below a f.0 (less_is _ (left _ _ t))) e)
      ∙ none-high a es l (right _ _ t) e

  none-found : (a : StateName) (es : Entries) → name_cmp least a ≡ Less → T (below_all name_cmp a es) → entries.find name_cmp least es ≡ None
  none-found a [] l t = refl
  none-found a (f ∷ es) l t =
      ap (λ r. cond (is_eq r) (Some f.1) (entries.find name_cmp least es)) (names_total.trans least a f.0 l (less_is _ (left _ _ t)))
      ∙ none-found a es l (right _ _ t)

  abbrev pub checked : StateName → Option StateName
  checked k = if passes k then Some k else None

  -- the first from the least on
  abbrev from_least : Entries → Option StateName
  from_least es = if is_some (entries.find name_cmp least es) then Some least
      else option_map (λ s. s.name) (find (λ s. is_lt (name_cmp least s.name)) (values es))

  first-passes : (es : Entries) → T (is_sorted name_cmp es) → AllByRecursion (λ e. e.1.name ≡ e.0) es
      → slice_get (filter passes (names es)) 0 ≡ option_and_then checked (from_least es)
  first-passes [] t f = refl
  first-passes (e ∷ es) t f = by (first-passes es (right _ _ t) f.1) (name_cmp least e.0) refl
    where
      same : e.1.name ≡ e.0
      same = f.0

      after : (r : Ordering) → name_cmp least e.0 ≡ r
          → find (λ s. is_lt (name_cmp least s.name)) (values (e ∷ es))
          ≡ cond (is_lt r) (Some e.1) (find (λ s. is_lt (name_cmp least s.name)) (values es))
      after r is = ap (λ q. cond (is_lt q) (Some e.1) (find (λ s. is_lt (name_cmp least s.name)) (values es))) (ap (name_cmp least) same ∙ is)

      found : (r : Ordering) → name_cmp least e.0 ≡ r → entries.find name_cmp least (e ∷ es) ≡ cond (is_eq r) (Some e.1) (entries.find name_cmp least es)
      found r is = ap (λ q. cond (is_eq q) (Some e.1) (entries.find name_cmp least es)) is

      first : (b : Bool) → passes e.0 ≡ b
          → slice_get (filter passes (names (e ∷ es))) 0 ≡ slice_get (cond b (e.0 ∷ filter passes (names es)) (filter passes (names es))) 0
      first b is = ap (λ c. slice_get (cond c (e.0 ∷ filter passes (names es)) (filter passes (names es))) 0) is

      checks : (b : Bool) → passes e.0 ≡ b → checked e.0 ≡ cond b (Some e.0) None
      checks b is = ap (λ c. cond c (Some e.0) None) is

      by : slice_get (filter passes (names es)) 0 ≡ option_and_then checked (from_least es) → (r : Ordering) → name_cmp least e.0 ≡ r
          → slice_get (filter passes (names (e ∷ es))) 0 ≡ option_and_then checked (from_least (e ∷ es))
      by rest Less is = least_above (passes e.0) refl ∙ sym (ap (option_and_then checked) begins)
        where
          none : entries.find name_cmp least (e ∷ es) ≡ None
          none = found Less is ∙ none-found e.0 es is (left _ _ t)

          begins : from_least (e ∷ es) ≡ Some e.0
          begins = (λ i. if is_some (none i) then Some least else option_map (λ (s : State). s.name) (after Less is i)) ∙ ap Some same

          least_above : (b : Bool) → passes e.0 ≡ b → slice_get (filter passes (names (e ∷ es))) 0 ≡ checked e.0
          least_above true p = first true p ∙ sym (checks true p)
          least_above false p = first false p ∙ (ap (λ (ns : List StateName). slice_get ns 0) (none-high e.0 es is (left _ _ t) p) ∙ sym (checks false p))
      by rest Equal is =
          let p = least-passes e.0 is in
          let begins : from_least (e ∷ es) ≡ Some least =
          ap (λ (o : Option State). if is_some o then Some least
          else option_map (λ (s : State). s.name) (find (λ s. is_lt (name_cmp least s.name)) (values (e ∷ es)))) (found Equal is) in
          let one : least ≡ e.0 = names_exact least e.0 is in
          first true p ∙ (sym (checks true p) ∙ (ap checked (sym one) ∙ sym (ap (option_and_then checked) begins)))
      by rest Greater is =
          let begins : from_least (e ∷ es) ≡ from_least es = λ i. if is_some (found Greater is i) then Some least
          else option_map (λ (s : State). s.name) (after Greater is i) in
          first false (low e.0 is) ∙ (rest ∙ sym (ap (option_and_then checked) begins))

-- ---- those of a node

-- a greater name is another one
apart : (a b : StateName) → name_cmp a b ≡ Less → eq_by_cmp name_cmp b a ≡ false
apart a b e = ap is_eq (names_total.antisymm b a ∙ ap ordering_reverse e)

found-lower : (e : StateName × State) (es gs : List (StateName × State)) → T (below_all name_cmp e.0 gs)
    → AllByRecursion (λ g. entries.find name_cmp g.0 es ≡ Some g.1) gs → AllByRecursion (λ g. entries.find name_cmp g.0 (e ∷ es) ≡ Some g.1) gs
found-lower e es [] t a = tt
found-lower e es (g ∷ gs) t a = (
  ap (λ b. cond b (Some e.1) (entries.find name_cmp g.0 es)) (apart e.0 g.0 (less_is _ (left _ _ t))) ∙ a.0,
  found-lower e es gs (right _ _ t) a.1,
)

entries-found : (es : List (StateName × State)) → T (is_sorted name_cmp es) → AllByRecursion (λ e. entries.find name_cmp e.0 es ≡ Some e.1) es
entries-found [] t = tt
entries-found (e ∷ es) t = (
  ap (λ b. cond b (Some e.1) (entries.find name_cmp e.0 es)) ((eq_by_cmp_equiv names_total).refl e.0),
  found-lower e es es (left _ _ t) (entries-found es (right _ _ t)),
)

-- each state stands under its name
entries-filed : (m : States) → AreStates m → (es : List (StateName × State))
    → AllByRecursion (λ e. entries.find name_cmp e.0 (maps.entries m) ≡ Some e.1) es → AllByRecursion (λ e. e.1.name ≡ e.0) es
entries-filed m are [] a = tt
entries-filed m are (e ∷ es) a = (are.filed e.0 e.1 (get-entries m e.0 ∙ a.0), entries-filed m are es a.1)

-- the first name from this one on
abbrev pub first_from : States → StateName → Option StateName
first_from m name = if is_some (maps.get m name) then Some name else option_map (λ s. s.name) (state_after m name)

first-cleared : (n : Node) (creator bound : ℕ) → AreStates n.states
    → slice_get (cleared_names n creator bound) 0 ≡ option_and_then (checked creator bound) (first_from n.states (least creator bound))
first-cleared n creator bound is =
    let es = maps.entries n.states in
    let sorted = entries_sorted n.states in
    first-passes creator bound es sorted (entries-filed n.states is es (entries-found es sorted))
    ∙ ap (λ (o : Option State). option_and_then (checked creator bound) (if is_some o then Some (least creator bound)
    else option_map (λ (s : State). s.name) (state_after n.states (least creator bound)))) (sym (get-entries n.states (least creator bound)))

-- the same, where that first one is known
module _ (n : Node) (creator bound : ℕ) (is : AreStates n.states) (o : Option StateName) (from : o ≡ first_from n.states (least creator bound)) where
  begins : slice_get (cleared_names n creator bound) 0 ≡ option_and_then (checked creator bound) o
  begins = first-cleared n creator bound is ∙ ap (option_and_then (checked creator bound)) (sym from)

  pub none-cleared : o ≡ None → None ≡ slice_get (cleared_names n creator bound) 0
  none-cleared at = sym (begins ∙ ap (option_and_then (checked creator bound)) at)

  pub first-is : (k : StateName) (b t : Bool) → o ≡ Some k → t ≡ passes creator bound k → t ≡ b
      → (if b then Some k else None) ≡ slice_get (cleared_names n creator bound) 0
  first-is k b t at test is = sym (begins ∙ (ap (option_and_then (checked creator bound)) at ∙ ap (λ (c : Bool). if c then Some k else None) (sym test ∙ is)))
