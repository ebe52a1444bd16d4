-- The states of a node that have expired, in the order in which they do: the first, and those that are left without it.
use Rattle.std.specs.Prelude.{◌≡◌, suc, ◌==◌, ◌&&◌, ◌||◌, ℕ, ◌≤◌, Bool, true, false, not, nat_lt, nat_le, List, [], ◌∷◌, map, filter, length, Option}
use Rattle.std.specs.Prelude.{Some, None, if◌then◌else◌, refl}
use Rattle.std.specs.List.{AllByRecursion, slice_get}
use Rattle.std.specs.Option.{option_map, option_and_then}
use Rattle.std.specs.declared.cmp.Ordering.{Ordering}
use Rattle.std.specs.declared.cmp.Ordering.TheVariants.{Less, Equal, Greater}
use Rattle.std.specs.Ordering.{eq_by_cmp, is_lt, is_eq, ordering_reverse}
use Rattle.std.specs.Cmp.{eq_by_cmp_equiv}
use Rattle.std.specs.FinMap.Entries.{is_sorted, below_all, find as found}
use Rattle.std.proofs.Common.{cond, T, sym, ◌∙◌, ap, subst, arith}
use Rattle.std.proofs.lemmas.Bool.Decides.{nat_tests}
use Rattle.pfl_base.specs.Lists.{in_order, put_before}
use Rattle.pfl_base.specs.declared.state_name.StateName.{StateName}
use Rattle.pfl_base.specs.Names.{name_cmp, is_name}
use Rattle.pfl_base.proofs.ForCallers.{names_total, is_name-itself, is_name-same, apart, each-filter, each-in_order, each-put_before}
use Rattle.pfl_edits.specs.Maps as maps
use Rattle.pfl_edits.specs.Maps.{entries_sorted}
use Rattle.pfl_edits.proofs.ForCallers.{get-entries, len-entries, equal_is}
use Rattle.pfl_rules.specs.declared.adaptive.Adaptive.{Adaptive}
use Rattle.pfl_rules.specs.Scaling.{scaled}
use Rattle.pfl_track.specs.declared.state.State.{State}
use Rattle.pfl_track.specs.Tracking.{expiry}
use Rattle.pfl_receive.specs.table.declared.row.Row.{Row}
use Rattle.pfl_receive.proofs.ForCallers.table.{state_before, TimedBy, row_of, first_expiring-states, IsInOrder, NoneBefore, IsInOrder-in_order}
use Rattle.pfl_receive.proofs.ForCallers.table.{rest_in_order, in_order-filter, state_before-asymmetric, state_before-passed_on}
use Rattle.pfl_receive.specs.table.Tables.{Table, States, AreStates, states_of, row_expiry, first_expiring}
use Rattle.pfl_receive.specs.desk.Nodes.{Node, AreParts}
use Rattle.pfl_node.specs.Purging.{expiry_among, expires_before, expired_among}

-- ---- lists

first-all : {X : Type 0} (P : X → Type 0) (xs : List X) (x : X) → AllByRecursion P xs → slice_get xs 0 ≡ Some x → P x
first-all P [] x a e = absurd (cc)
first-all P (y ∷ ys) x a e = let same : y ≡ x = cc in subst P same a.0

filter-all : {X : Type 0} (p : X → Bool) (xs : List X) → AllByRecursion (λ x. p x ≡ true) xs → filter p xs ≡ xs
filter-all p [] a = refl
filter-all p (x ∷ xs) a = ap (λ b. cond b (x ∷ filter p xs) (filter p xs)) a.0 ∙ ap (λ (ys : List _). x ∷ ys) (filter-all p xs a.1)

-- two tests at once
filter-both : {X : Type 0} (p q : X → Bool) (xs : List X) → filter q (filter p xs) ≡ filter (λ x. p x && q x) xs
filter-both p q [] = refl
filter-both p q (x ∷ xs) = elim (p x) as
    (λ b. filter q (cond b (x ∷ filter p xs) (filter p xs)) ≡ cond (b && q x) (x ∷ filter (λ y. p y && q y) xs) (filter (λ y. p y && q y) xs)) [
      | true ↦ ap (λ (ys : List _). cond (q x) (x ∷ ys) ys) (filter-both p q xs)
      | false ↦ filter-both p q xs
    ]

-- tests that answer alike
filter-alike : {X : Type 0} (p q : X → Bool) (xs : List X) → ((x : X) → p x ≡ q x) → filter p xs ≡ filter q xs
filter-alike p q [] h = refl
filter-alike p q (x ∷ xs) h = (λ i. cond (h x i) (x ∷ filter-alike p q xs h i) (filter-alike p q xs h i))

-- in either order
filter-swap : {X : Type 0} (p q : X → Bool) (xs : List X) → filter p (filter q xs) ≡ filter q (filter p xs)
filter-swap p q xs = filter-both q p xs ∙ (filter-alike (λ x. q x && p x) (λ x. p x && q x) xs (λ x. turned (q x) (p x)) ∙ sym (filter-both p q xs))
  where
    turned : (a b : Bool) → (a && b) ≡ (b && a)
    turned true true = refl
    turned true false = refl
    turned false true = refl
    turned false false = refl

-- ---- states with names of their own

-- the state's name is none of theirs
abbrev pub IsApart : State → List State → Type 0
IsApart s ts = AllByRecursion (λ t. is_name s.name t.name ≡ false) ts

-- no two have one name
abbrev pub AreApart : List State → Type 0
AreApart [] = Unit {0}
AreApart (s ∷ ss) = IsApart s ss × AreApart ss

pub apart-filter : (p : State → Bool) (ss : List State) → AreApart ss → AreApart (filter p ss)
apart-filter p [] a = tt
apart-filter p (s ∷ ss) a = elim (p s) as (λ b. AreApart (cond b (s ∷ filter p ss) (filter p ss))) [
  | true ↦ (each-filter (λ t. is_name s.name t.name ≡ false) p ss a.0, apart-filter p ss a.1)
  | false ↦ apart-filter p ss a.1
]

-- the other way round
name_turned : (a b : StateName) → is_name a b ≡ false → is_name b a ≡ false
name_turned a b e = elim (is_name b a) as (λ t. is_name b a ≡ t → t ≡ false) [
  | true ↦ λ t. absurd (subst T (sym (is_name-itself a b (sym (is_name-same b a t))) ∙ e) tt)
  | false ↦ λ t. refl
] refl

apart-put : (before : State → State → Bool) (s : State) (ts : List State) → IsApart s ts → AreApart ts → AreApart (put_before before s ts)
apart-put before s [] a b = (tt, tt)
apart-put before s (t ∷ ts) a b = elim (before s t) as (λ c. AreApart (cond c (s ∷ t ∷ ts) (t ∷ put_before before s ts))) [
  | true ↦ (a, b)
  | false ↦ (each-put_before (λ u. is_name t.name u.name ≡ false) before s ts (name_turned s.name t.name a.0) b.0, apart-put before s ts a.1 b.1)
]

apart-in_order : (before : State → State → Bool) (ss : List State) → AreApart ss → AreApart (in_order before ss)
apart-in_order before [] a = tt
apart-in_order before (s ∷ ss) a =
    apart-put before s (in_order before ss) (each-in_order (λ t. is_name s.name t.name ≡ false) before ss a.0) (apart-in_order before ss a.1)

-- ---- the states of a table

pub left : (a b : Bool) → T (a && b) → T a
left true b t = tt
left false b t = t

pub right : (a b : Bool) → T (a && b) → T b
right true b t = t
right false b t = absurd t

pub less_is : (r : Ordering) → T (is_lt r) → r ≡ Less
less_is Less t = refl
less_is Equal t = absurd t
less_is Greater t = absurd t

abbrev pub Entries : Type 0
Entries = List (StateName × State)

-- each stands under its name
abbrev pub AreFiled : Entries → Type 0
AreFiled es = AllByRecursion (λ e. e.1.name ≡ e.0) es

other_name : (a b : StateName) → name_cmp a b ≡ Less → is_name a b ≡ false
other_name a b e = elim (is_name a b) as (λ t. is_name a b ≡ t → t ≡ false) [
  | true ↦ λ t. absurd (subst T (ap is_lt (sym e) ∙ (ap (λ n. is_lt (name_cmp a n)) (sym (is_name-same a b t)) ∙ own)) tt)
  | false ↦ λ t. refl
] refl
  where
    own : is_lt (name_cmp a a) ≡ false
    own = ap is_lt (equal_is (name_cmp a a) ((eq_by_cmp_equiv names_total).refl a))

below-apart : (s : State) (name : StateName) (es : Entries) → s.name ≡ name → T (below_all name_cmp name es) → AreFiled es → IsApart s (map (λ e. e.1) es)
below-apart s name [] is t f = tt
below-apart s name (e ∷ es) is t f = (
  ap (λ n. is_name n e.1.name) is ∙ (ap (is_name name) f.0 ∙ other_name name e.0 (less_is _ (left _ _ t))),
  below-apart s name es is (right _ _ t) f.1,
)

entries-apart : (es : Entries) → T (is_sorted name_cmp es) → AreFiled es → AreApart (map (λ e. e.1) es)
entries-apart [] t f = tt
entries-apart (e ∷ es) t f = (below-apart e.1 e.0 es f.0 (left _ _ t) f.1, entries-apart es (right _ _ t) f.1)

-- a greater name is another one
above : (a b : StateName) → name_cmp a b ≡ Less → eq_by_cmp name_cmp b a ≡ false
above a b e = ap is_eq (names_total.antisymm b a ∙ ap ordering_reverse e)

found_lower : (e : StateName × State) (es gs : Entries) → T (below_all name_cmp e.0 gs)
    → AllByRecursion (λ g. found name_cmp g.0 es ≡ Some g.1) gs → AllByRecursion (λ g. found name_cmp g.0 (e ∷ es) ≡ Some g.1) gs
found_lower e es [] t a = tt
found_lower e es (g ∷ gs) t a = (
  ap (λ b. cond b (Some e.1) (found name_cmp g.0 es)) (above e.0 g.0 (less_is _ (left _ _ t))) ∙ a.0,
  found_lower e es gs (right _ _ t) a.1,
)

entries-found : (es : Entries) → T (is_sorted name_cmp es) → AllByRecursion (λ e. found name_cmp e.0 es ≡ Some e.1) es
entries-found [] t = tt
entries-found (e ∷ es) t = (
  ap (λ b. cond b (Some e.1) (found name_cmp e.0 es)) ((eq_by_cmp_equiv names_total).refl e.0),
  found_lower e es es (left _ _ t) (entries-found es (right _ _ t)),
)

module _ (m : States) (are : AreStates m) where
  entries-filed : (es : Entries) → AllByRecursion (λ e. found name_cmp e.0 (maps.entries m) ≡ Some e.1) es → AreFiled es
  entries-filed [] a = tt
  entries-filed (e ∷ es) a = (are.filed e.0 e.1 (get-entries m e.0 ∙ a.0), entries-filed es a.1)

  pub filed : AreFiled (maps.entries m)
  filed = entries-filed (maps.entries m) (entries-found (maps.entries m) (entries_sorted m))

  -- no two states of a table have one name
  pub values-apart : AreApart (maps.values m)
  values-apart = entries-apart (maps.entries m) (entries_sorted m) filed

  entries-stand : (es : Entries) → AreFiled es → AllByRecursion (λ e. found name_cmp e.0 (maps.entries m) ≡ Some e.1) es
      → AllByRecursion (λ s. maps.get m s.name ≡ Some s) (map (λ e. e.1) es)
  entries-stand [] f a = tt
  entries-stand (e ∷ es) f a = (ap (maps.get m) f.0 ∙ (get-entries m e.0 ∙ a.0), entries-stand es f.1 a.1)

  -- each stands under its name
  pub values-stand : AllByRecursion (λ s. maps.get m s.name ≡ Some s) (maps.values m)
  values-stand = entries-stand (maps.entries m) filed (entries-found (maps.entries m) (entries_sorted m))

  entries-without : (name : StateName) (es : Entries) → AreFiled es
      → map (λ e. e.1) (filter (λ e. not (eq_by_cmp name_cmp name e.0)) es) ≡ filter (λ s. not (is_name name s.name)) (map (λ e. e.1) es)
  entries-without name [] f = refl
  entries-without name (e ∷ es) f =
      let same : eq_by_cmp name_cmp name e.0 ≡ is_name name e.1.name = ties name e.0 ∙ ap (is_name name) (sym f.0) in
      elim (is_name name e.1.name) as (λ b. eq_by_cmp name_cmp name e.0 ≡ b
      → map (λ e. e.1) (filter (λ e. not (eq_by_cmp name_cmp name e.0)) (e ∷ es))
      ≡ cond (not b) (e.1 ∷ filter (λ s. not (is_name name s.name)) (map (λ e. e.1) es))
      (filter (λ s. not (is_name name s.name)) (map (λ e. e.1) es))) [
        | true ↦ λ t. ap (λ b. map (λ (g : StateName × State). g.1)
            (cond (not b) (e ∷ filter (λ g. not (eq_by_cmp name_cmp name g.0)) es) (filter (λ g. not (eq_by_cmp name_cmp name g.0)) es))) t
            ∙ entries-without name es f.1
        | false ↦ λ t. ap (λ b. map (λ (g : StateName × State). g.1)
            (cond (not b) (e ∷ filter (λ g. not (eq_by_cmp name_cmp name g.0)) es) (filter (λ g. not (eq_by_cmp name_cmp name g.0)) es))) t
            ∙ ap (λ (ss : List State). e.1 ∷ ss) (entries-without name es f.1)
      ] same
    where
      ties : (a b : StateName) → eq_by_cmp name_cmp a b ≡ is_name a b
      ties a b = elim (is_name a b) as (λ t. is_name a b ≡ t → eq_by_cmp name_cmp a b ≡ t) [
        | true ↦ λ t. ap (eq_by_cmp name_cmp a) (sym (is_name-same a b t)) ∙ (eq_by_cmp_equiv names_total).refl a
        | false ↦ λ t. apart b a (name_turned a b t)
      ] refl

  -- without a name, its states are those of other names
  pub values-without : (name : StateName) → maps.values (maps.remove m name) ≡ filter (λ s. not (is_name name s.name)) (maps.values m)
  unfolding maps.entries maps.remove maps.retain_keys
  values-without name = entries-without name (maps.entries m) filed

-- ---- one after another

module _ (due : State → ℕ) where
  abbrev before : State → State → Bool
  before = state_before due

  with_rest : (ss : List State) (s : State) → slice_get ss 0 ≡ Some s → (rest : List State) × (ss ≡ s ∷ rest)
  with_rest [] s e = absurd (cc)
  with_rest (t ∷ ss) s e = let same : t ≡ s = cc in (ss, ap (λ (u : State). u ∷ ss) same)

  others : (s : State) (ts : List State) → IsApart s ts → AllByRecursion (λ t. not (is_name s.name t.name) ≡ true) ts
  others s [] a = tt
  others s (t ∷ ts) a = (ap not a.0, others s ts a.1)

  -- the first, and those of other names
  first-rest : (ss : List State) (s : State) → AreApart ss → slice_get (in_order before ss) 0 ≡ Some s
      → in_order before ss ≡ s ∷ in_order before (filter (λ t. not (is_name s.name t.name)) ss)
  first-rest ss s are e =
      let split = with_rest (in_order before ss) s e in
      let apart_all : AreApart (s ∷ split.0) = subst AreApart split.1 (apart-in_order before ss are) in
      let other = λ (t : State). not (is_name s.name t.name) in
      split.1 ∙ ap (λ (ts : List State). s ∷ ts)
      (sym (rest_in_order before (state_before-asymmetric due) (state_before-passed_on due) other ss s split.0 split.1
      (ap not (is_name-itself s.name s.name refl)) (filter-all other split.0 (others s split.0 apart_all.0))))

  module _ (clock : ℕ) where
    -- a state that has expired
    abbrev is_open : State → Bool
    is_open s = nat_le (due s) clock

    -- without the first the others are left
    pub left-rest : (ss : List State) (s : State) → AreApart ss → slice_get (in_order before (filter is_open ss)) 0 ≡ Some s
        → in_order before (filter is_open ss) ≡ s ∷ in_order before (filter is_open (filter (λ t. not (is_name s.name t.name)) ss))
    left-rest ss s are e =
        first-rest (filter is_open ss) s (apart-filter is_open ss are) e
        ∙ ap (λ (ts : List State). s ∷ in_order before ts) (filter-swap (λ t. not (is_name s.name t.name)) is_open ss)

    -- where one has not expired, none after it has
    late : (s t : State) → before t s ≡ false → is_open s ≡ false → is_open t ≡ false
    late s t e f = by (nat_lt (due t) (due s)) refl e
      where
        by : (b : Bool) → nat_lt (due t) (due s) ≡ b → (b || ((due t == due s) && is_lt (name_cmp t.name s.name))) ≡ false → is_open t ≡ false
        by true is e = absurd (cc)
        by false is e = grind (arith, nat_tests)

    late-all : (s : State) (ts : List State) → NoneBefore before s ts → is_open s ≡ false → filter is_open ts ≡ []
    late-all s [] none f = refl
    late-all s (t ∷ ts) none f = ap (λ b. cond b (t ∷ filter is_open ts) (filter is_open ts)) (late s t none.0 f) ∙ late-all s ts none.1 f

    first_of : (ss : List State) → IsInOrder before ss
        → slice_get (filter is_open ss) 0 ≡ option_and_then (λ s. if is_open s then Some s else None) (slice_get ss 0)
    first_of [] is = refl
    first_of (s ∷ ss) is = elim (is_open s) as (λ b. is_open s ≡ b → slice_get (cond b (s ∷ filter is_open ss) (filter is_open ss)) 0 ≡ cond b (Some s) None) [
      | true ↦ λ e. refl
      | false ↦ λ e. ap (λ (ts : List State). slice_get ts 0) (late-all s ss is.0 e)
    ] refl

    -- the first to expire is the first that has expired, if one has
    pub first-open : (ss : List State)
        → slice_get (in_order before (filter is_open ss)) 0 ≡ option_and_then (λ s. if is_open s then Some s else None)
        (slice_get (in_order before ss) 0)
    first-open ss =
        ap (λ (ts : List State). slice_get ts 0) (in_order-filter before (state_before-asymmetric due) (state_before-passed_on due) is_open ss)
        ∙ first_of (in_order before ss) (IsInOrder-in_order before (state_before-asymmetric due) (state_before-passed_on due) ss)

-- ---- the rows of a table

-- when a state expires whose timeout is scaled for this many states
abbrev pub scaled_expiry : (State → ℕ) → Adaptive → ℕ → State → ℕ
scaled_expiry timeout a states s = expiry s (scaled (timeout s) a states)

-- the state of a row that has expired
abbrev pub due_state : Adaptive → ℕ → ℕ → Row → Option State
due_state a states clock r = if nat_le (row_expiry a states r) clock then Some r.state else None

-- the first that has expired is the state of the first row, if that has expired
pub first-row : (timeout : State → ℕ) (a : Adaptive) (states clock : ℕ) (t : Table) → TimedBy timeout t
    → slice_get (in_order (state_before (scaled_expiry timeout a states))
    (filter (λ s. nat_le (scaled_expiry timeout a states s) clock) (maps.values (states_of t)))) 0
    ≡ option_and_then (due_state a states clock) (first_expiring a states t)
first-row timeout a states clock t by =
    let due = scaled_expiry timeout a states in
    first-open due clock (maps.values (states_of t))
    ∙ (as_row (slice_get (in_order (state_before due) (maps.values (states_of t))) 0)
    ∙ ap (option_and_then (due_state a states clock)) (sym (first_expiring-states timeout t by a states)))
  where
    as_row : (o : Option State)
        → option_and_then (λ s. if nat_le (scaled_expiry timeout a states s) clock then Some s else None) o
        ≡ option_and_then (due_state a states clock) (option_map (row_of timeout) o)
    as_row None = refl
    as_row (Some s) = refl

-- ---- how many there are

length-put : {X : Type 0} (before : X → X → Bool) (x : X) (xs : List X) → length (put_before before x xs) ≡ suc (length xs)
length-put before x [] = refl
length-put before x (y ∷ ys) = elim (before x y) as (λ b. length (cond b (x ∷ y ∷ ys) (y ∷ put_before before x ys)) ≡ suc (suc (length ys))) [
  | true ↦ refl
  | false ↦ ap (λ (n : ℕ). suc n) (length-put before x ys)
]

length-in_order : {X : Type 0} (before : X → X → Bool) (xs : List X) → length (in_order before xs) ≡ length xs
length-in_order before [] = refl
length-in_order before (x ∷ xs) = length-put before x (in_order before xs) ∙ ap (λ (n : ℕ). suc n) (length-in_order before xs)

few-filter : {X : Type 0} (p : X → Bool) (xs : List X) → length (filter p xs) ≤ length xs
few-filter p [] = omega arith
few-filter p (x ∷ xs) = elim (p x) as (λ b. length (cond b (x ∷ filter p xs) (filter p xs)) ≤ suc (length xs)) [
  | true ↦ omega (arith, few-filter p xs)
  | false ↦ omega (arith, few-filter p xs)
]

length-values : (es : Entries) → length (map (λ e. e.1) es) ≡ length es
length-values [] = refl
length-values (e ∷ es) = ap (λ (n : ℕ). suc n) (length-values es)

-- ---- those of a node, by the timeouts of this many states

module _ (k : ℕ) where
  -- each state that has expired stands under its name
  pub expired-stand : (n : Node) → AreParts n → AllByRecursion (λ s. maps.get n.states s.name ≡ Some s) (expired_among k n)
  expired-stand n is =
      each-in_order (λ (s : State). maps.get n.states s.name ≡ Some s) (expires_before k n) _
      (each-filter (λ (s : State). maps.get n.states s.name ≡ Some s) _ (maps.values n.states) (values-stand n.states is.states))

  -- so does the first
  pub first-stands : (n : Node) (s : State) → AreParts n → slice_get (expired_among k n) 0 ≡ Some s → maps.get n.states s.name ≡ Some s
  first-stands n s is e = first-all (λ (t : State). maps.get n.states t.name ≡ Some t) (expired_among k n) s (expired-stand n is) e

  -- no more have expired than there are
  pub expired-few : (n : Node) → length (expired_among k n) ≤ maps.len n.states
  expired-few n =
      let ordered : length (expired_among k n) ≡ length (filter (λ s. nat_le (expiry_among k n s) n.clock) (maps.values n.states)) =
      length-in_order (expires_before k n) _ in
      let few = few-filter (λ s. nat_le (expiry_among k n s) n.clock) (maps.values n.states) in
      let long = length-values (maps.entries n.states) in
      omega (arith, ordered, few, long, len-entries n.states)

  -- without the first the others are left
  pub expired-without : (n m : Node) (s : State) → AreParts n → m.states ≡ maps.remove n.states s.name → m.limits ≡ n.limits
      → m.rules ≡ n.rules → m.clock ≡ n.clock → slice_get (expired_among k n) 0 ≡ Some s → expired_among k n ≡ s ∷ expired_among k m
  expired-without n m s is states limits rules clock e =
      let without = ap (λ (ss : List State). s ∷ in_order (expires_before k n) (filter (λ t. nat_le (expiry_among k n t) n.clock) ss))
      (sym (values-without n.states is.states s.name)) in
      left-rest (expiry_among k n) n.clock (maps.values n.states) s (values-apart n.states is.states) e
      ∙ (without ∙ sym (λ i. s ∷ expired_among k (record n { states = states i; limits = limits i; rules = rules i; clock = clock i })))
