-- A clear takes the first of its names out, and then clears.
use Rattle.std.specs.Prelude.{◌≡◌, ◌≤◌, ◌<◌, ℕ, ◌+◌, ◌*◌, ◌-◌, ◌==◌, ◌&&◌, ◌||◌, Bool, true, false, not, nat_le, List, [], ◌∷◌, map, filter, length}
use Rattle.std.specs.Prelude.{Option, Some, None, refl}
use Rattle.std.specs.List.{fold, list_any, slice_get}
use Rattle.std.specs.declared.cmp.Ordering.{Ordering}
use Rattle.std.specs.declared.cmp.Ordering.TheVariants.{Less, Equal, Greater}
use Rattle.std.specs.Ordering.{eq_by_cmp, is_lt, is_eq}
use Rattle.std.specs.Cmp.{eq_by_cmp_equiv}
use Rattle.std.specs.FinMap.Entries.{is_sorted, below_all}
use Rattle.std.proofs.Common.{cond, T, ◌∙◌, ap, sym, arith}
use Rattle.pfl_base.specs.declared.state_name.StateName.{StateName}
use Rattle.pfl_base.specs.Names.{name_cmp}
use Rattle.pfl_base.proofs.ForCallers.{names_total}
use Rattle.pfl_edits.specs.Maps as maps
use Rattle.pfl_edits.specs.Maps.{entries_sorted}
use Rattle.pfl_edits.proofs.ForCallers.{len-entries, len-remove, contains_key-keys}
use Rattle.pfl_track.specs.declared.state.State.{State}
use Rattle.pfl_desk.specs.table.Tables.{States}
use Rattle.pfl_desk.specs.Changes.{forgotten, is_held, count_lost, without_held}
use Rattle.pfl_desk.specs.Drafts.{Draft, Writes}
use Rattle.pfl_desk.specs.Nodes.{Node}
use Rattle.pfl_desk.proofs.ForCallers.{writes-none, writes-then}
use Rattle.pfl_receive.specs.inner.Delivering.{IsPaid}
use Rattle.pfl_receive.specs.Receiving.{clear_taken, cleared_names}

-- ---- the names of a map

abbrev Entries : Type 0
Entries = List (StateName × State)

abbrev names : Entries → List StateName
names es = map (λ e. e.0) es

abbrev others : StateName → Entries → Entries
others name es = filter (λ e. not (eq_by_cmp name_cmp name e.0)) es

left : (a b : Bool) → T (a && b) → T a
left true b t = tt
left false b t = t

right : (a b : Bool) → T (a && b) → T b
right true b t = t
right false b t = absurd t

lower : (r : Ordering) → T (is_lt r) → is_eq r ≡ false
lower Less t = refl
lower Equal t = absurd t
lower Greater t = absurd t

-- none of the entries above a name has it
others-above : (name : StateName) (es : Entries) → T (below_all name_cmp name es) → others name es ≡ es
others-above name [] t = refl
others-above name (e ∷ es) t =
    ap (λ b. cond (not b) (e ∷ others name es) (others name es)) (lower (name_cmp name e.0) (left _ _ t))
    ∙ ap (λ (gs : Entries). e ∷ gs) (others-above name es (right _ _ t))

module _ (p : StateName → Bool) where
  -- without the first name that passes, the others that pass are left
  rest-names : (es : Entries) (name : StateName) (rest : List StateName) → T (is_sorted name_cmp es) → filter p (names es) ≡ name ∷ rest
      → filter p (names (others name es)) ≡ rest
  rest-names [] name rest t e = absurd (cc)
  rest-names (f ∷ es) name rest t e = by (rest-names es name rest (right _ _ t)) (p f.0) refl e
    where
      by : (filter p (names es) ≡ name ∷ rest → filter p (names (others name es)) ≡ rest) → (b : Bool) → p f.0 ≡ b
          → cond b (f.0 ∷ filter p (names es)) (filter p (names es)) ≡ name ∷ rest → filter p (names (others name (f ∷ es))) ≡ rest
      by others-left true is e =
          let same : f.0 ≡ name = cc in
          let later : filter p (names es) ≡ rest = cc in
          let gone : eq_by_cmp name_cmp name f.0 ≡ true = ap (eq_by_cmp name_cmp name) same ∙ (eq_by_cmp_equiv names_total).refl name in
          ap (λ b. filter p (names (cond (not b) (f ∷ others name es) (others name es)))) gone
          ∙ (ap (λ (gs : Entries). filter p (names gs)) (ap (λ (k : StateName). others k es) (sym same) ∙ others-above f.0 es (left _ _ t)) ∙ later)
      by others-left false is e =
          passes (eq_by_cmp name_cmp name f.0) ∙ others-left e
        where
          passes : (b : Bool) → filter p (names (cond (not b) (f ∷ others name es) (others name es))) ≡ filter p (names (others name es))
          passes true = refl
          passes false = ap (λ c. cond c (f.0 ∷ filter p (names (others name es))) (filter p (names (others name es)))) is

  -- and that name is one of them all
  first-is_name : (es : Entries) (name : StateName) (rest : List StateName) → filter p (names es) ≡ name ∷ rest
      → list_any (eq_by_cmp name_cmp name) (names es) ≡ true
  first-is_name [] name rest e = absurd (cc)
  first-is_name (f ∷ es) name rest e = by (first-is_name es name rest) (p f.0) e
    where
      or_true : (a b : Bool) → b ≡ true → (a || b) ≡ true
      or_true true b h = refl
      or_true false b h = h

      by : (filter p (names es) ≡ name ∷ rest → list_any (eq_by_cmp name_cmp name) (names es) ≡ true) → (b : Bool)
          → cond b (f.0 ∷ filter p (names es)) (filter p (names es)) ≡ name ∷ rest → list_any (eq_by_cmp name_cmp name) (names (f ∷ es)) ≡ true
      by later true e =
          let same : f.0 ≡ name = cc in
          ap (λ b. b || list_any (eq_by_cmp name_cmp name) (names es)) (ap (eq_by_cmp name_cmp name) same ∙ (eq_by_cmp_equiv names_total).refl name)
      by later false e = or_true (eq_by_cmp name_cmp name f.0) _ (later e)

some-entries : (q : StateName → Bool) (es : Entries) → list_any q (names es) ≡ true → 1 ≤ length es
some-entries q [] e = absurd (cc)
some-entries q (f ∷ es) e = omega arith

-- where a name is known, there is a state
pub known-some : (m : States) (name : StateName) → maps.contains_key m name ≡ true → 1 ≤ maps.len m
known-some m name known = let some = some-entries (eq_by_cmp name_cmp name) (maps.entries m) (sym (contains_key-keys m name) ∙ known)
    in omega (arith, some, len-entries m)

-- what stands under the name is one state
one-less : (m : States) (p : StateName → Bool) (name : StateName) (rest : List StateName) → filter p (maps.keys m) ≡ name ∷ rest
    → maps.len m ≡ maps.len (maps.remove m name) + 1
one-less m p name rest e =
    let is = first-is_name p (maps.entries m) name rest e in
    let there = contains_key-keys m name ∙ is in
    let less = len-remove names_total m name ∙ ap (λ b. cond b (maps.len m - 1) (maps.len m)) there in
    let some = known-some m name there in
    omega (arith, less, some)

keys-without : (m : States) (p : StateName → Bool) (name : StateName) (rest : List StateName) → filter p (maps.keys m) ≡ name ∷ rest
    → filter p (maps.keys (maps.remove m name)) ≡ rest
unfolding maps.entries maps.remove maps.retain_keys
keys-without m p name rest e = rest-names p (maps.entries m) name rest (entries_sorted m) e

-- ---- those of a clear

-- a name that is forgotten leaves the other states
pub forgotten-states : (n : Node) (name : StateName) → (forgotten n name).states ≡ maps.remove n.states name
unfolding forgotten
forgotten-states n name = by (is_held n name)
  where
    by : (b : Bool) → maps.remove (cond b (count_lost (without_held n name)) n).states name ≡ maps.remove n.states name
    by true = refl
    by false = refl

-- the first of the names, and the clear of the node without it
pub record IsNext (m : Node) (creator bound : ℕ) (name : StateName) : Type 0 where
  pub rest : clear_taken m creator bound ≡ clear_taken (forgotten m name) creator bound
  pub one : length (cleared_names m creator bound) ≡ length (cleared_names (forgotten m name) creator bound) + 1
  pub fewer : maps.len m.states ≡ maps.len (forgotten m name).states + 1

with-rest : (ns : List StateName) (name : StateName) → slice_get ns 0 ≡ Some name → (rest : List StateName) × (ns ≡ name ∷ rest)
with-rest [] name e = absurd (cc)
with-rest (k ∷ ns) name e = let same : k ≡ name = cc in (ns, ap (λ (l : StateName). l ∷ ns) same)

pub next-is : (m : Node) (creator bound : ℕ) (name : StateName) (o : Option StateName) → o ≡ slice_get (cleared_names m creator bound) 0
    → o ≡ Some name → IsNext m creator bound name
next-is m creator bound name o first is =
    let split = with-rest (cleared_names m creator bound) name (sym first ∙ is) in
    let test = λ (k : StateName). (k.creator == creator) && nat_le k.id bound in
    let states = forgotten-states m name in
    let left : cleared_names (forgotten m name) creator bound ≡ split.0 =
    ap (λ (s : States). filter test (maps.keys s)) states ∙ keys-without m.states test name split.0 split.1 in
    let long = ap (λ (ns : List StateName). length ns) split.1 in
    let short = ap (λ (ns : List StateName). length ns) left in
    record {
      rest = ap (fold forgotten m) split.1 ∙ ap (fold forgotten (forgotten m name)) (sym left);
      one = omega (arith, long, short);
      fewer = one-less m.states test name split.0 split.1 ∙ ap (λ (s : States). maps.len s + 1) (sym states);
    }

pub cleared-none : (m : Node) (creator bound : ℕ) (o : Option StateName) → o ≡ slice_get (cleared_names m creator bound) 0 → o ≡ None
    → clear_taken m creator bound ≡ m
cleared-none m creator bound o first none = ap (fold forgotten m) (empty (cleared_names m creator bound) (sym first ∙ none))
  where
    empty : (ns : List StateName) → slice_get ns 0 ≡ None → ns ≡ []
    empty [] e = refl
    empty (k ∷ ns) e = absurd (cc)

-- ---- name by name

-- e is what d was made to by some of its names
pub record IsCleared (d e : Draft) (creator bound : ℕ) : Type 0 where
  pub rest : clear_taken e.node creator bound ≡ clear_taken d.node creator bound
  pub paid : IsPaid 0 d e
  pub due : d.edits.spare + 4 * length (cleared_names e.node creator bound) ≤ e.edits.spare + 4 * length (cleared_names d.node creator bound)
  pub writes : Writes (4 * length (cleared_names d.node creator bound)) d e

pub cleared-first : (d : Draft) (creator bound : ℕ) → IsCleared d d creator bound
cleared-first d creator bound = record { rest = refl; paid = omega arith; due = omega arith; writes = writes-none _ d }

module _ (d e : Draft) (creator bound : ℕ) (so : IsCleared d e creator bound) (name : StateName) (next : IsNext e.node creator bound name) where
  pub cleared-room : 4 * maps.len d.node.states ≤ d.edits.spare → 4 ≤ e.edits.spare
  cleared-room room = let paid = so.paid in let fewer = next.fewer in omega (arith, paid, fewer, room)

  pub cleared-more : (f : Draft) → f.node ≡ forgotten e.node name → Writes 4 e f → IsCleared d f creator bound
  cleared-more f same more =
      let all = writes-then (4 * length (cleared_names d.node creator bound)) 4 d e f so.writes more in
      let paid = so.paid in
      let due = so.due in
      let spare = more.spare in
      let fewer = next.fewer ∙ ap (λ (n : Node). maps.len n.states + 1) (sym same) in
      let one = next.one ∙ ap (λ (n : Node). length (cleared_names n creator bound) + 1) (sym same) in
      let now : d.edits.spare + 4 * length (cleared_names f.node creator bound) ≤ f.edits.spare + 4 * length
      (cleared_names d.node creator bound) = omega (arith, due, spare, one) in
      record {
        rest = ap (λ (n : Node). clear_taken n creator bound) same ∙ (sym next.rest ∙ so.rest);
        paid = omega (arith, paid, spare, fewer);
        due = now;
        writes = record { spare = omega (arith, now); room = all.room; began = all.began };
      }

  pub cleared-fewer : (f : Draft) → f.node ≡ forgotten e.node name → maps.len f.node.states < maps.len e.node.states
  cleared-fewer f same = let fewer = next.fewer ∙ ap (λ (n : Node). maps.len n.states + 1) (sym same) in omega (arith, fewer)
