-- What a purge deletes is what is due by its list.
use Rattle.std.specs.Prelude.{◌≡◌, ◌&&◌, ◌||◌, ℕ, suc, Bool, true, false, List, [], ◌∷◌, filter, length, map, Option, None, refl}
use Rattle.std.specs.List.{AllZip, fold, list_any}
use Rattle.std.proofs.Common.{T, cond, ◌∙◌, ap, subst, sym}
use Rattle.pfl_base.specs.declared.state_name.StateName.{StateName}
use Rattle.pfl_base.specs.Lists.{in_order, put_before}
use Rattle.pfl_base.specs.Names.{is_name}
use Rattle.pfl_base.proofs.ForCallers.{is_name-itself, is_name-same, names_exact, names_total}
use Rattle.pfl_edits.specs.Maps as maps
use Rattle.pfl_edits.proofs.ForCallers.{get-set_at_other, get-set_at_same}
use Rattle.pfl_language.specs.Limits.{adaptive}
use Rattle.pfl_track.specs.declared.state.State.{State}
use Rattle.pfl_track.specs.Tracking.{expired}
use Rattle.pfl_world.proofs.ForCallers.desk.{Rest, deleted-rest}
use Rattle.pfl_world.specs.desk.Changes.{deleted}
use Rattle.pfl_world.specs.desk.Nodes.{Node}
use Rattle.pfl_world.specs.node.Purging.{expired_states, expires_before, purged, timeout_of}
use Rattle.pfl_world.specs.table.Tables.{States}
use Rattle.pfl_reasons.specs.declared.expiry.Expiry.{Expiry}
use Rattle.pfl_reasons.specs.Purges.{IsExpiryOf, PurgedSo, expiries, expiry_of, is_due}

-- ---- how many

length-put : {X : Type 0} (before : X → X → Bool) (x : X) (xs : List X) → length (put_before before x xs) ≡ length (x ∷ xs)
length-put before x [] = refl
length-put before x (y ∷ ys) = elim (before x y) as (λ b. length (cond b (x ∷ y ∷ ys) (y ∷ put_before before x ys)) ≡ length (x ∷ y ∷ ys)) [
  | true ↦ refl
  | false ↦ ap (λ (n : ℕ). suc n) (length-put before x ys)
]

length-in_order : {X : Type 0} (before : X → X → Bool) (xs : List X) → length (in_order before xs) ≡ length xs
length-in_order before [] = refl
length-in_order before (x ∷ xs) = length-put before x (in_order before xs) ∙ ap (λ (n : ℕ). suc n) (length-in_order before xs)

length-filter : {X Y : Type 0} (p : Y → Bool) (f : X → Y) (xs : List X) → length (filter (λ x. p (f x)) xs) ≡ length (filter p (map f xs))
length-filter p f [] = refl
length-filter p f (x ∷ xs) =
    elim (p (f x)) as (λ b. length (cond b (x ∷ filter (λ x. p (f x)) xs) (filter (λ x. p (f x)) xs))
    ≡ length (cond b (f x ∷ filter p (map f xs)) (filter p (map f xs)))) [
      | true ↦ ap (λ (n : ℕ). suc n) (length-filter p f xs)
      | false ↦ length-filter p f xs
    ]

-- ---- which

or-swap : (a b c : Bool) → (a || (b || c)) ≡ (b || (a || c))
or-swap true true c = refl
or-swap true false c = refl
or-swap false b c = refl

any-put : {X : Type 0} (test : X → Bool) (before : X → X → Bool) (x : X) (xs : List X) → list_any test (put_before before x xs) ≡ (test x || list_any test xs)
any-put test before x [] = refl
any-put test before x (y ∷ ys) =
    elim (before x y) as (λ b. list_any test (cond b (x ∷ y ∷ ys) (y ∷ put_before before x ys)) ≡ (test x || list_any test (y ∷ ys))) [
      | true ↦ refl
      | false ↦ ap (λ (b : Bool). test y || b) (any-put test before x ys) ∙ or-swap (test y) (test x) (list_any test ys)
    ]

any-in_order : {X : Type 0} (test : X → Bool) (before : X → X → Bool) (xs : List X) → list_any test (in_order before xs) ≡ list_any test xs
any-in_order test before [] = refl
any-in_order test before (x ∷ xs) =
    any-put test before x (in_order before xs) ∙ ap (λ (b : Bool). test x || b) (any-in_order test before xs)

any-filter : {X Y : Type 0} (p : Y → Bool) (test : X → Bool) (same : Y → Bool) (f : X → Y) → ((x : X) → test x ≡ same (f x)) → (xs : List X)
    → list_any test (filter (λ x. p (f x)) xs) ≡ list_any (λ y. p y && same y) (map f xs)
any-filter p test same f is [] = refl
any-filter p test same f is (x ∷ xs) =
    elim (p (f x)) as (λ b. list_any test (cond b (x ∷ filter (λ x. p (f x)) xs) (filter (λ x. p (f x)) xs))
    ≡ ((b && same (f x)) || list_any (λ y. p y && same y) (map f xs))) [
      | true ↦ λ i. is x i || any-filter p test same f is xs i
      | false ↦ any-filter p test same f is xs
    ]

-- ---- a state less

removed : (m : States) (k name : StateName) → maps.get (maps.remove m k) name ≡ cond (is_name name k) None (maps.get m name)
removed m k name = by (is_name name k) refl
  where
    by : (b : Bool) → is_name name k ≡ b → maps.get (maps.remove m k) name ≡ cond b None (maps.get m name)
    by true is = ap (maps.get (maps.remove m k)) (is_name-same name k is) ∙ get-set_at_same names_total names_exact m k None
    by false is = get-set_at_other names_total names_exact m k None name (λ same. subst T (sym (is_name-itself name k same) ∙ is) tt)

deleted-states : (n : Node) (s : State) → (deleted n s).states ≡ maps.remove n.states s.name
deleted-states n s = ap (λ (r : Rest). r.1.1.0) (deleted-rest n s)

either_way : {X : Type 0} (a b : Bool) (o : Option X) → cond b None (cond a None o) ≡ cond (a || b) None o
either_way true true o = refl
either_way true false o = refl
either_way false b o = refl

fold-gone : (ss : List State) (n : Node) (name : StateName)
    → maps.get (fold deleted n ss).states name ≡ cond (list_any (λ s. is_name name s.name) ss) None (maps.get n.states name)
fold-gone [] n name = refl
fold-gone (s ∷ ss) n name =
    let later = list_any (λ (t : State). is_name name t.name) ss in
    fold-gone ss (deleted n s) name
    ∙ (ap (λ (o : Option State). cond later None o) (ap (λ (m : States). maps.get m name) (deleted-states n s) ∙ removed n.states s.name name)
    ∙ either_way (is_name name s.name) later (maps.get n.states name))

-- ---- a purge

entries-so : (n : Node) (states : ℕ) (ss : List State) → AllZip (IsExpiryOf n states (adaptive n.limits)) (map (expiry_of states n) ss) ss
entries-so n states [] = tt
entries-so n states (s ∷ ss) = ((refl, refl, refl, refl, refl), entries-so n states ss)

counted-so : (n : Node) → length (expired_states n) ≡ length (filter (is_due n.clock) (expiries n))
unfolding expiries
counted-so n =
    let states = maps.len n.states in
    length-in_order (expires_before states n) _ ∙ length-filter (is_due n.clock) (expiry_of states n) (maps.values n.states)

gone-so : (n : Node) (name : StateName) → maps.get (purged n).states name
    ≡ cond (list_any (λ (e : Expiry). is_due n.clock e && is_name name e.name) (expiries n)) None (maps.get n.states name)
unfolding purged expiries
gone-so n name =
    let states = maps.len n.states in
    let due = filter (λ (s : State). expired s (timeout_of states n s) n.clock) (maps.values n.states) in
    let same = any-in_order (λ (s : State). is_name name s.name) (expires_before states n) due
    ∙ any-filter (is_due n.clock) (λ (s : State). is_name name s.name) (λ (e : Expiry). is_name name e.name) (expiry_of states n)
    (λ s. refl) (maps.values n.states) in
    fold-gone (expired_states n) n name ∙ ap (λ (b : Bool). cond b None (maps.get n.states name)) same

pub purged-so : (n : Node) → PurgedSo n n.clock (maps.len n.states) (adaptive n.limits) (expiries n) (length (expired_states n)) (purged n)
unfolding expiries
purged-so n = record {
  own_clock = refl;
  own_states = refl;
  own_bounds = refl;
  entries = entries-so n (maps.len n.states) (maps.values n.states);
  counted = counted-so n;
  gone = gone-so n;
}
