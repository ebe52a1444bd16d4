-- A release lets the oldest packet go that is due, and then releases.
use Rattle.std.specs.Prelude.{◌≡◌, ◌≤◌, ◌<◌, ℕ, ◌+◌, ◌*◌, length, map, filter, not, nat_le, Bool, true, false, List, [], ◌∷◌, Option, Some, None}
use Rattle.std.specs.Prelude.{is_some, if◌then◌else◌, refl}
use Rattle.std.specs.List.{AllByRecursion, IsDistinct, fold, slice_get}
use Rattle.std.specs.Option.{option_map_or}
use Rattle.std.proofs.Common.{cond, ◌∙◌, ap, sym, subst, arith}
use Rattle.std.proofs.lemmas.List.{length-map}
use Rattle.std.proofs.lemmas.Map.Keys.{IsDistinct-head, IsDistinct-tail}
use Rattle.pfl_base.specs.declared.state_name.StateName.{StateName}
use Rattle.pfl_base.specs.Names.{is_name}
use Rattle.pfl_base.proofs.ForCallers.{is_name-itself}
use Rattle.pfl_edits.specs.Maps as maps
use Rattle.pfl_receive.specs.defer.declared.Held.{Held}
use Rattle.pfl_receive.specs.defer.Deferring.{Deferrals, held_of, let_go, due}
use Rattle.pfl_receive.proofs.ForCallers.defer.{absent_stays}
use Rattle.pfl_track.specs.declared.state.State.{State}
use Rattle.pfl_language.specs.declared.limits.Limits.{Limits}
use Rattle.pfl_receive.specs.desk.Changes.{count_freed, without_held, freed, not_waiting, put_state, released}
use Rattle.pfl_receive.specs.desk.Drafts.{Draft, Writes}
use Rattle.pfl_receive.specs.desk.Nodes.{Node, AreParts}
use Rattle.pfl_receive.proofs.ForCallers.desk.{writes-none, writes-then, writes-more}
use Rattle.pfl_node.specs.Releasing.{due_names, released_due}

-- ---- the first of the names that are due, and those of the list without it

abbrev names : List Held → List StateName
names hs = map (λ h. h.name) hs

others_stay : (name : StateName) (hs : List Held) → AllByRecursion (λ n. is_name name n ≡ false) (names hs) → filter (λ h. not (is_name name h.name)) hs ≡ hs
others_stay name [] a = refl
others_stay name (h ∷ hs) a =
    ap (λ b. cond (not b) (h ∷ filter (λ k. not (is_name name k.name)) hs) (filter (λ k. not (is_name name k.name)) hs)) a.0
    ∙ ap (λ (ks : List Held). h ∷ ks) (others_stay name hs a.1)

-- a packet that is not due is of no matter, here or there
skipped : (p : Held → Bool) (h : Held) (hs : List Held) → p h ≡ false → (b : Bool) → filter p (cond b (h ∷ hs) hs) ≡ filter p hs
skipped p h hs late true = ap (λ b. cond b (h ∷ filter p hs) (filter p hs)) late
skipped p h hs late false = refl

due-first : (p : Held → Bool) (name : StateName) (hs : List Held) → IsDistinct is_name (names hs) → slice_get (names (filter p hs)) 0 ≡ Some name
    → names (filter p hs) ≡ name ∷ names (filter p (filter (λ h. not (is_name name h.name)) hs))
due-first p name [] once e = absurd (cc)
due-first p name (h ∷ hs) once e =
    elim (p h) as (λ b. p h ≡ b → slice_get (names (cond b (h ∷ filter p hs) (filter p hs))) 0 ≡ Some name
    → names (cond b (h ∷ filter p hs) (filter p hs)) ≡ name ∷ names (filter p (filter (λ k. not (is_name name k.name)) (h ∷ hs)))) [
      | true ↦ λ is first.
          let same : h.name ≡ name = cc in
          let own : is_name name h.name ≡ true = is_name-itself name h.name (sym same) in
          let apart : AllByRecursion (λ n. is_name name n ≡ false) (names hs) =
          subst (λ (n : StateName). AllByRecursion (λ m. is_name n m ≡ false) (names hs)) same (IsDistinct-head is_name h.name (names hs) once) in
          let rest : filter (λ k. not (is_name name k.name)) (h ∷ hs) ≡ hs =
          ap (λ b. cond (not b) (h ∷ filter (λ k. not (is_name name k.name)) hs) (filter (λ k. not (is_name name k.name)) hs)) own
          ∙ others_stay name hs apart in
          (λ i. same i ∷ names (filter p (sym rest i)))
      | false ↦ λ late first.
          due-first p name hs (IsDistinct-tail is_name h.name (names hs) once) first
          ∙ ap (λ (ks : List Held). name ∷ names ks) (sym (skipped p h (filter (λ k. not (is_name name k.name)) hs) late (not (is_name name h.name))))
    ] refl e

-- ---- what a packet that goes out leaves

abbrev Waits : Type 0
Waits = Deferrals × ℕ × Limits

abbrev waits : Node → Waits
waits n = (n.held, n.clock, n.limits)

freed-waits : (n : Node) (name : StateName) → waits (freed n name) ≡ (let_go n.held name, n.clock, n.limits)
freed-waits n name = by (held_of n.held name) refl
  where
    by : (o : Option Held) → held_of n.held name ≡ o
        → waits (if is_some o then count_freed (without_held n name) else n) ≡ (let_go n.held name, n.clock, n.limits)
    by None none = ap (λ (hs : List Held). (record n.held { list = hs }, n.clock, n.limits)) (sym (absent_stays name n.held.list none))
    by (Some h) is = refl

not_waiting-waits : (n : Node) (name : StateName) → waits (not_waiting n name) ≡ waits n
not_waiting-waits n name = by (maps.get n.states name)
  where
    by : (o : Option State) → waits (option_map_or (λ s. put_state n (record s { ack_wanted = false })) o n) ≡ waits n
    by None = refl
    by (Some s) = refl

released-waits : (n : Node) (name : StateName) → waits (released n name) ≡ (let_go n.held name, n.clock, n.limits)
released-waits n name = not_waiting-waits (freed n name) name ∙ freed-waits n name

-- the first, and those of the node that let it go
due-next : (n : Node) (name : StateName) → AreParts n → slice_get (due_names n) 0 ≡ Some name → due_names n ≡ name ∷ due_names (released n name)
due-next n name is e =
    due-first (λ h. nat_le (h.held_at + n.limits.defer_ms) n.clock) name n.held.list is.deferrals.once e
    ∙ ap (λ (w : Waits). name ∷ names (due w.0 w.1 w.2.defer_ms)) (sym (released-waits n name))

released-next : (n : Node) (name : StateName) → due_names n ≡ name ∷ due_names (released n name) → released_due n ≡ released_due (released n name)
unfolding released_due
released-next n name e = ap (fold released n) e

released-none : (n : Node) → due_names n ≡ [] → released_due n ≡ n
unfolding released_due
released-none n e = ap (fold released n) e

few-filter : (p : Held → Bool) (hs : List Held) → length (filter p hs) ≤ length hs
few-filter p [] = omega arith
few-filter p (h ∷ hs) =
    let rest = few-filter p hs in
    elim (p h) as (λ b. length (cond b (h ∷ filter p hs) (filter p hs)) ≤ length (h ∷ hs)) [
      | true ↦ omega (arith, rest)
      | false ↦ omega (arith, rest)
    ]

-- no more are due than may be held
pub due-few : (n : Node) → AreParts n → length (due_names n) ≤ n.limits.held
due-few n is =
    let few = few-filter (λ h. nat_le (h.held_at + n.limits.defer_ms) n.clock) n.held.list in
    let names_few = length-map (due n.held n.clock n.limits.defer_ms) (λ (h : Held). h.name) in
    let held = is.deferrals.few in
    let limit = is.held_limit in
    omega (arith, few, names_few, held, limit)

-- ---- name by name

-- b is what a was made to by this many of its packets going out
pub record IsReleased (a b : Draft) (count : ℕ) : Type 0 where
  pub room : 3 * length (due_names b.node) ≤ b.edits.spare
  pub few : length (due_names a.node) ≤ 128
  pub rest : released_due b.node ≡ released_due a.node
  pub all : count + length (due_names b.node) ≡ length (due_names a.node)
  pub writes : Writes (3 * count) a b

pub released-first : (a : Draft) → AreParts a.node → 3 * length (due_names a.node) ≤ a.edits.spare → IsReleased a a 0
released-first a is room = record {
  room = room;
  few = let most = is.limits.1.1.1.1.0.1 in let few = due-few a.node is in omega (arith, few, most);
  rest = refl;
  all = omega arith;
  writes = writes-none 0 a;
}

-- the next packet that goes out
pub record IsNextDue (b : Draft) (name : StateName) : Type 0 where
  pub due : due_names b.node ≡ name ∷ due_names (released b.node name)
  pub rest : released_due b.node ≡ released_due (released b.node name)
  pub room : 3 ≤ b.edits.spare

pub next-due : (a b : Draft) (count : ℕ) (name : StateName) → AreParts b.node → IsReleased a b count
    → slice_get (due_names b.node) 0 ≡ Some name → IsNextDue b name
next-due a b count name is so first =
    let next = due-next b.node name is first in
    let long = ap (λ (ns : List StateName). length ns) next in
    let room = so.room in
    record { due = next; rest = released-next b.node name next; room = omega (arith, room, long) }

module _ (a b : Draft) (count : ℕ) (so : IsReleased a b count) (name : StateName) (next : IsNextDue b name) where
  long : length (due_names b.node) ≡ length (due_names (released b.node name)) + 1
  long = let more = ap (λ (ns : List StateName). length ns) next.due in omega (arith, more)

  -- one is left less
  pub fewer-due : length (due_names (released b.node name)) < length (due_names b.node)
  fewer-due = omega (arith, long)

  pub counted-few : count ≤ 127
  counted-few = let few = so.few in let all = so.all in omega (arith, few, all, long)

  pub released-more : (d : Draft) → d.node ≡ released b.node name → Writes 3 b d → IsReleased a d (count + 1)
  released-more d same more =
      let spare = more.spare in
      let room = so.room in
      let all = so.all in
      let left = ap (λ (v : Node). length (due_names v)) same in
      record {
        room = omega (arith, room, spare, long, left);
        few = so.few;
        rest = ap released_due same ∙ (sym next.rest ∙ so.rest);
        all = omega (arith, all, long, left);
        writes = writes-more (3 * count + 3) (3 * (count + 1)) a d (omega arith) (writes-then (3 * count) 3 a b d so.writes more);
      }

-- where none is left, the release is done
pub record IsDone (a b : Draft) (count : ℕ) : Type 0 where
  pub node : b.node ≡ released_due a.node
  pub all : count ≡ length (due_names a.node)
  pub writes : Writes (3 * length (due_names a.node)) a b

none_first : (ns : List StateName) → slice_get ns 0 ≡ None → ns ≡ []
none_first [] e = refl
none_first (name ∷ ns) e = absurd (cc)

pub released-done : (a b : Draft) (count : ℕ) → IsReleased a b count → slice_get (due_names b.node) 0 ≡ None → IsDone a b count
released-done a b count so none =
    let empty = none_first (due_names b.node) none in
    let long = ap (λ (ns : List StateName). length ns) empty in
    let all = so.all in
    record {
      node = sym (released-none b.node empty) ∙ so.rest;
      all = omega (arith, all, long);
      writes = writes-more (3 * count) (3 * length (due_names a.node)) a b (omega (arith, all, long)) so.writes;
    }

-- ---- how a release is judged
