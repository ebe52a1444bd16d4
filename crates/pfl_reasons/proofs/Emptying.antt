-- A clear leaves as many states fewer as it names.
use Rattle.std.specs.Prelude.{◌≡◌, ◌≢◌, ◌&&◌, ◌||◌, ◌+◌, Bool, true, false, List, [], ◌∷◌, filter, length, map, Option, Some, None, is_some, refl}
use Rattle.std.specs.Cmp.{eq_by_cmp_equiv}
use Rattle.std.specs.FinMap.Entries.{below_all, is_sorted}
use Rattle.std.specs.List.{AllByRecursion, fold, list_any}
use Rattle.std.specs.Ordering.{eq_by_cmp, is_eq, is_lt}
use Rattle.std.specs.declared.cmp.Ordering.{Ordering}
use Rattle.std.specs.declared.cmp.Ordering.TheVariants.{Less, Equal, Greater}
use Rattle.std.proofs.Common.{cond, T, ◌∙◌, ap, arith, subst, sym}
use Rattle.std.proofs.Math.Bool.{or-true}
use Rattle.pfl_base.specs.declared.state_name.StateName.{StateName}
use Rattle.pfl_base.specs.Names.{name_cmp}
use Rattle.pfl_base.proofs.ForCallers.{names_exact, names_total}
use Rattle.pfl_edits.specs.Maps as maps
use Rattle.pfl_edits.specs.Maps.{entries_sorted}
use Rattle.pfl_edits.proofs.ForCallers.{contains_key-keys, get-set_at_other, get-set_at_same, len-insert, set_at-back}
use Rattle.pfl_track.specs.declared.state.State.{State}
use Rattle.pfl_world.specs.desk.Changes.{count_lost, forgotten, is_held, lost, without_held}
use Rattle.pfl_world.specs.desk.Nodes.{Node}
use Rattle.pfl_world.specs.table.Tables.{States}

abbrev Entries : Type 0
Entries = List (StateName × State)

abbrev names : Entries → List StateName
names es = map (λ e. e.0) es

-- ---- of a map

-- each of the names is a key when its turn comes to be taken out
abbrev InTurn : States → List StateName → Type 0
InTurn m [] = Unit {0}
InTurn m (k ∷ ks) = (maps.contains_key m k ≡ true) × InTurn (maps.remove m k) ks

left : (a b : Bool) → T (a && b) → T a
left true b t = tt
left false b t = t

right : (a b : Bool) → T (a && b) → T b
right true b t = t
right false b t = absurd t

lower : (r : Ordering) → T (is_lt r) → is_eq r ≡ false
lower Less t = refl
lower Equal t = absurd t
lower Greater t = absurd t

apart : (a b : StateName) → T (is_lt (name_cmp a b)) → b ≢ a
apart a b less same =
    subst T (sym ((eq_by_cmp_equiv names_total).refl a) ∙ (ap (eq_by_cmp name_cmp a) (sym same) ∙ lower (name_cmp a b) less)) tt

AreKeys : States → Entries → Type 0
AreKeys m es = AllByRecursion (λ e. maps.contains_key m e.0 ≡ true) es

still-keys : (m : States) (a : StateName) (es : Entries) → T (below_all name_cmp a es) → AreKeys m es → AreKeys (maps.remove m a) es
unfolding AreKeys
still-keys m a [] below are = tt
still-keys m a (e ∷ es) below are =
    let other = apart a e.0 (left _ _ below) in (
      ap (λ (o : Option State). is_some o) (get-set_at_other names_total names_exact m a None e.0 other) ∙ are.0,
      still-keys m a es (right _ _ below) are.1,
    )

in-turn : (p : StateName → Bool) (m : States) (es : Entries) → T (is_sorted name_cmp es) → AreKeys m es → InTurn m (filter p (names es))
unfolding AreKeys
in-turn p m [] sorted are = tt
in-turn p m (e ∷ es) sorted are = elim (p e.0) as (λ b. InTurn m (cond b (e.0 ∷ filter p (names es)) (filter p (names es)))) [
  | true ↦ (are.0, in-turn p (maps.remove m e.0) es (right _ _ sorted) (still-keys m e.0 es (left _ _ sorted) are.1))
  | false ↦ in-turn p m es (right _ _ sorted) are.1
]

-- the keys of a map are its keys
among : (m : States) (es : Entries) → ((q : StateName) → list_any (eq_by_cmp name_cmp q) (names es) ≡ true → maps.contains_key m q ≡ true) → AreKeys m es
unfolding AreKeys
among m [] has = tt
among m (e ∷ es) has =
    let rest = list_any (eq_by_cmp name_cmp e.0) (names es) in (
      has e.0 (ap (λ (b : Bool). b || rest) ((eq_by_cmp_equiv names_total).refl e.0)),
      among m es (λ q is. has q (ap (λ (b : Bool). eq_by_cmp name_cmp q e.0 || b) is ∙ or-true (eq_by_cmp name_cmp q e.0))),
    )

-- one key less
one-less : (m : States) (k : StateName) → maps.contains_key m k ≡ true → maps.len m ≡ maps.len (maps.remove m k) + 1
one-less m k is = by (maps.get m k) refl is
  where
    by : (o : Option State) → maps.get m k ≡ o → is_some o ≡ true → maps.len m ≡ maps.len (maps.remove m k) + 1
    by None at is = absurd (cc)
    by (Some v) at is =
        sym (ap (λ (x : States). maps.len x) (set_at-back names_total names_exact m k (Some v) None at))
        ∙ (len-insert names_total (maps.remove m k) k v
        ∙ ap (λ (o : Option State). cond (is_some o) (maps.len (maps.remove m k)) (maps.len (maps.remove m k) + 1))
        (get-set_at_same names_total names_exact m k None))

all-out : (ks : List StateName) (m : States) → InTurn m ks → maps.len m ≡ maps.len (fold (λ x k. maps.remove x k) m ks) + length ks
all-out [] m turn = omega arith
all-out (k ∷ ks) m turn =
    let one = one-less m k turn.0 in
    let rest = all-out ks (maps.remove m k) turn.1 in
    omega (arith, one, rest)

-- ---- of a node

lost-states : (n : Node) (name : StateName) → (lost n name).states ≡ n.states
lost-states n name = elim (is_held n name) as (λ b. (cond b (count_lost (without_held n name)) n).states ≡ n.states) [ true ↦ refl | false ↦ refl ]

forgotten-states : (n : Node) (name : StateName) → (forgotten n name).states ≡ maps.remove n.states name
unfolding forgotten
forgotten-states n name = ap (λ (m : States). maps.remove m name) (lost-states n name)

states-out : (ks : List StateName) (n : Node) → (fold forgotten n ks).states ≡ fold (λ x k. maps.remove x k) n.states ks
states-out [] n = refl
states-out (k ∷ ks) n = states-out ks (forgotten n k) ∙ ap (λ (m : States). fold (λ x k. maps.remove x k) m ks) (forgotten-states n k)

-- as many states fewer as names pass
pub fewer-by : (n : Node) (p : StateName → Bool)
    → maps.len n.states ≡ maps.len (fold forgotten n (filter p (maps.keys n.states))).states + length (filter p (maps.keys n.states))
fewer-by n p =
    let ks = filter p (maps.keys n.states) in
    let keys = among n.states (maps.entries n.states) (λ q is. contains_key-keys n.states q ∙ is) in
    let turn = in-turn p n.states (maps.entries n.states) (entries_sorted n.states) keys in
    all-out ks n.states turn ∙ ap (λ (m : States). maps.len m + length ks) (sym (states-out ks n))
