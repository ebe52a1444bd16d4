-- A clear forgets the first state that is there, and then the others.
use Rattle.std.specs.Prelude.{◌≡◌, ◌≤◌, ◌<◌, ℕ, ◌+◌, ◌-◌, ◌*◌, length, map, filter, not, Bool, true, false, List, [], ◌∷◌, Some, None, if◌then◌else◌, refl}
use Rattle.std.specs.List.{fold, slice_get}
use Rattle.std.specs.Ordering.{eq_by_cmp, is_eq}
use Rattle.std.specs.FinMap.Entries.{is_sorted, below_all}
use Rattle.std.proofs.Common.{cond, T, ◌∙◌, ap, sym, subst, arith}
use Rattle.std.proofs.lemmas.List.{length-map}
use Rattle.std.specs.Cmp.{eq_by_cmp_equiv}
use Rattle.pfl_base.specs.declared.state_name.StateName.{StateName}
use Rattle.pfl_base.specs.Names.{name_cmp}
use Rattle.pfl_base.proofs.ForCallers.{names_total}
use Rattle.pfl_edits.specs.Maps as maps
use Rattle.pfl_edits.specs.Maps.{entries_sorted}
use Rattle.pfl_edits.proofs.ForCallers.{len-entries}
use Rattle.pfl_receive.specs.table.Tables.{States}
use Rattle.pfl_track.specs.declared.state.State.{State}
use Rattle.pfl_receive.specs.desk.Changes.{count_lost, without_held, is_held, forgotten, announce_clear}
use Rattle.pfl_receive.specs.desk.Drafts.{Draft, Writes}
use Rattle.pfl_receive.specs.desk.Nodes.{Node}
use Rattle.pfl_receive.proofs.ForCallers.desk.{writes-none, writes-then, writes-more}
use Rattle.pfl_node.specs.Clearing.{cleared}
use Rattle.pfl_node.proofs.Expired.{Entries, left, right, less_is}

-- ---- the first name of a table, and the others

others_stay : (name : StateName) (es : Entries) → T (below_all name_cmp name es) → filter (λ e. not (eq_by_cmp name_cmp name e.0)) es ≡ es
others_stay name [] t = refl
others_stay name (e ∷ es) t =
    ap (λ r. cond (not (is_eq r)) (e ∷ filter (λ g. not (eq_by_cmp name_cmp name g.0)) es)
    (filter (λ g. not (eq_by_cmp name_cmp name g.0)) es)) (less_is _ (left _ _ t))
    ∙ ap (λ (gs : Entries). e ∷ gs) (others_stay name es (right _ _ t))

first_gone : (name : StateName) (es : Entries) → T (is_sorted name_cmp es) → slice_get (map (λ e. e.0) es) 0 ≡ Some name
    → map (λ e. e.0) es ≡ name ∷ map (λ e. e.0) (filter (λ e. not (eq_by_cmp name_cmp name e.0)) es)
first_gone name [] t first = absurd (cc)
first_gone name (e ∷ es) t first =
    let same : e.0 ≡ name = cc in
    let own : eq_by_cmp name_cmp name e.0 ≡ true = ap (λ n. eq_by_cmp name_cmp n e.0) (sym same) ∙ (eq_by_cmp_equiv names_total).refl e.0 in
    let others : T (below_all name_cmp name es) = subst (λ n. T (below_all name_cmp n es)) same (left _ _ t) in
    (λ i. same i ∷ map (λ (g : StateName × State). g.0) (sym (others_stay name es others) i))
    ∙ ap (λ b. name ∷ map (λ (g : StateName × State). g.0)
    (cond (not b) (e ∷ filter (λ g. not (eq_by_cmp name_cmp name g.0)) es) (filter (λ g. not (eq_by_cmp name_cmp name g.0)) es))) (sym own)

pub keys-next : (m : States) (name : StateName) → slice_get (maps.keys m) 0 ≡ Some name → maps.keys m ≡ name ∷ maps.keys (maps.remove m name)
unfolding maps.entries maps.remove maps.retain_keys
keys-next m name first = first_gone name (maps.entries m) (entries_sorted m) first

len-keys : (m : States) → maps.len m ≡ length (maps.keys m)
len-keys m = len-entries m ∙ sym (length-map (maps.entries m) (λ (e : StateName × State). e.0))

-- ---- what is left where one was forgotten

forgotten-states : (n : Node) (name : StateName) → (forgotten n name).states ≡ maps.remove n.states name
unfolding forgotten
forgotten-states n name = by (is_held n name)
  where
    by : (b : Bool) → maps.remove (if b then count_lost (without_held n name) else n).states name ≡ maps.remove n.states name
    by true = refl
    by false = refl

-- all that are left of m are forgotten
abbrev pub emptied : Node → Node
emptied n = fold forgotten n (maps.keys n.states)

-- b is what a was made to by forgetting some of its states
pub record IsEmptied (a b : Draft) : Type 0 where
  pub room : 4 * maps.len b.node.states ≤ b.edits.spare
  pub rest : emptied b.node ≡ emptied a.node
  pub fewer : maps.len b.node.states ≤ maps.len a.node.states
  pub writes : Writes (4 * (maps.len a.node.states - maps.len b.node.states)) a b

pub emptied-first : (a : Draft) → 4 * maps.len a.node.states ≤ a.edits.spare → IsEmptied a a
emptied-first a room = record { room = room; rest = refl; fewer = omega arith; writes = writes-none (4 * (maps.len a.node.states - maps.len a.node.states)) a }

-- the next that is forgotten
pub record IsNextName (b : Draft) (name : StateName) : Type 0 where
  pub rest : emptied b.node ≡ emptied (forgotten b.node name)
  pub long : maps.len b.node.states ≡ maps.len (forgotten b.node name).states + 1
  pub room : 4 ≤ b.edits.spare

pub next-name : (a b : Draft) (name : StateName) → IsEmptied a b → slice_get (maps.keys b.node.states) 0 ≡ Some name → IsNextName b name
next-name a b name so first =
    let next = keys-next b.node.states name first in
    let states = forgotten-states b.node name in
    let room = so.room in
    let long : maps.len b.node.states ≡ maps.len (forgotten b.node name).states + 1 =
    let more = ap (λ (ns : List StateName). length ns) next in
    let here = len-keys b.node.states in
    let there = len-keys (maps.remove b.node.states name) in
    let same = ap (λ (s : States). maps.len s) states in
    omega (arith, more, here, there, same) in
    record {
      rest = ap (fold forgotten b.node) next ∙ ap (λ (s : States). fold forgotten (forgotten b.node name) (maps.keys s)) (sym states);
      long = long;
      room = omega (arith, room, long);
    }

module _ (a b : Draft) (so : IsEmptied a b) (name : StateName) (next : IsNextName b name) where
  pub fewer-states : maps.len (forgotten b.node name).states < maps.len b.node.states
  fewer-states = omega (arith, next.long)

  pub emptied-more : (d : Draft) → d.node ≡ forgotten b.node name → Writes 4 b d → IsEmptied a d
  emptied-more d same more =
      let spare = more.spare in
      let room = so.room in
      let few = so.fewer in
      let long = next.long in
      let left = ap (λ (v : Node). maps.len v.states) same in
      record {
        room = omega (arith, room, spare, long, left);
        rest = ap emptied same ∙ (sym next.rest ∙ so.rest);
        fewer = omega (arith, few, long, left);
        writes =
            writes-more (4 * (maps.len a.node.states - maps.len b.node.states) + 4)
            (4 * (maps.len a.node.states - maps.len d.node.states)) a d (omega (arith, few, long, left))
            (writes-then (4 * (maps.len a.node.states - maps.len b.node.states)) 4 a b d so.writes more);
      }

-- where none is left, all are forgotten
pub record IsDone (a b : Draft) : Type 0 where
  pub node : b.node ≡ emptied a.node
  pub writes : Writes (4 * maps.len a.node.states) a b

none_first : (ns : List StateName) → slice_get ns 0 ≡ None → ns ≡ []
none_first [] e = refl
none_first (name ∷ ns) e = absurd (cc)

pub emptied-done : (a b : Draft) → IsEmptied a b → slice_get (maps.keys b.node.states) 0 ≡ None → IsDone a b
emptied-done a b so none =
    let empty = none_first (maps.keys b.node.states) none in
    record {
      node = sym (ap (fold forgotten b.node) empty) ∙ so.rest;
      writes = writes-more (4 * (maps.len a.node.states - maps.len b.node.states)) (4 * maps.len a.node.states) a b (omega arith) so.writes;
    }

-- ---- and what is announced to the peer

pub cleared-is : (n m : Node) (creator bound : ℕ) → m ≡ emptied n → creator ≡ n.creator → bound ≡ n.next_id - 1 → announce_clear m creator bound ≡ cleared n
unfolding cleared
cleared-is n m creator bound same by up_to = (λ i. announce_clear (same i) (by i) (up_to i))
