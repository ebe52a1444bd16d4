-- A purge deletes the first state that has expired, and then purges.
use Rattle.std.specs.Prelude.{◌≡◌, ◌≤◌, ◌<◌, ℕ, ◌+◌, ◌*◌, length, Bool, true, false, ◌||◌, List, [], ◌∷◌, Some, None, Result, Ok, OnOk, refl}
use Rattle.std.specs.List.{fold, slice_get, list_any}
use Rattle.std.proofs.Common.{◌∙◌, ap, sym, subst, arith}
use Rattle.pfl_base.specs.Lists.{folds}
use Rattle.pfl_edits.specs.Maps as maps
use Rattle.pfl_track.specs.declared.state.State.{State}
use Rattle.pfl_receive.specs.table.Tables.{States}
use Rattle.pfl_receive.specs.desk.declared.parts.judge.Overfull.{Overfull}
use Rattle.pfl_receive.specs.desk.Drafts.{Draft, Writes}
use Rattle.pfl_receive.specs.desk.Nodes.{Node, AreParts, is_overfull, is_overcounted}
use Rattle.pfl_receive.specs.desk.Changes.{deleted}
use Rattle.pfl_node.specs.Purging.{purged, purge_points, expired_among, expired_states}
use Rattle.pfl_receive.proofs.ForCallers.desk.{Rest, deleted-rest, writes-none, writes-then, writes-more}
use Rattle.pfl_node.proofs.Expired.{expired-without, expired-few, first-stands}

-- ---- one deletion after another, by the timeouts of this many states

-- what is left once all that has expired is deleted
unfoldable pub purged_among : ℕ → Node → Node
purged_among k n = fold deleted n (expired_among k n)

-- the points on the way
unfoldable pub points_among : ℕ → Node → List Node
points_among k n = folds deleted n (expired_among k n)

-- a purge goes by the number of states that it finds
purged-is : (n : Node) → purged_among (maps.len n.states) n ≡ purged n
unfolding purged purged_among
purged-is n = refl

points-is : (n : Node) → points_among (maps.len n.states) n ≡ purge_points n
unfolding purge_points points_among
points-is n = refl

module _ (k : ℕ) where
  -- the first, and those of the node without it
  expired-next : (n : Node) (s : State) → AreParts n → slice_get (expired_among k n) 0 ≡ Some s → expired_among k n ≡ s ∷ expired_among k (deleted n s)
  expired-next n s is e =
      let rest = deleted-rest n s in
      expired-without k n (deleted n s) s is (ap (λ (r : Rest). r.1.1.0) rest) (ap (λ (r : Rest). r.0) rest)
      (ap (λ (r : Rest). r.1.0) rest) (ap (λ (r : Rest). r.1.1.1.0) rest) e

  purged-next : (n : Node) (s : State) → AreParts n → slice_get (expired_among k n) 0 ≡ Some s → purged_among k n ≡ purged_among k (deleted n s)
  unfolding purged_among
  purged-next n s is e = ap (fold deleted n) (expired-next n s is e)

  points-next : (n : Node) (s : State) → AreParts n → slice_get (expired_among k n) 0 ≡ Some s → points_among k n ≡ deleted n s ∷ points_among k (deleted n s)
  unfolding points_among
  points-next n s is e = ap (folds deleted n) (expired-next n s is e)

  purged-none : (n : Node) → expired_among k n ≡ [] → purged_among k n ≡ n
  unfolding purged_among
  purged-none n e = ap (fold deleted n) e

  points-none : (n : Node) → expired_among k n ≡ [] → points_among k n ≡ []
  unfolding points_among
  points-none n e = ap (folds deleted n) e

-- ---- state by state

-- the number of states whose timeouts hold in a purge that began at this draft, to its end
abbrev pub found : Draft → ℕ
found a = maps.len a.node.states

-- it is what the table counted then
pub found-is : (a : Draft) (states : States) (k : ℕ) → k ≡ maps.len states → states ≡ a.node.states → k ≡ found a
found-is a states k len same = len ∙ ap (λ (m : States). maps.len m) same

-- b is what a was made to by this many of its deletions; over says whether after one of them a number was too high
pub record IsPurged (a b : Draft) (count : ℕ) (over : Bool) : Type 0 where
  pub room : 5 * length (expired_among (found a) b.node) ≤ b.edits.spare
  pub few : length (expired_states a.node) ≤ 65536
  pub rest : purged_among (found a) b.node ≡ purged a.node
  pub full : list_any is_overfull (points_among (found a) b.node) ≡ list_any is_overfull (purge_points a.node)
  pub counted : (over || list_any is_overcounted (points_among (found a) b.node)) ≡ list_any is_overcounted (purge_points a.node)
  pub all : count + length (expired_among (found a) b.node) ≡ length (expired_states a.node)
  pub writes : Writes (5 * count) a b

pub purged-first : (a : Draft) → AreParts a.node → 5 * length (expired_states a.node) ≤ a.edits.spare → IsPurged a a 0 false
purged-first a is room = record {
  room = room;
  few = let states = is.limits.0.1 in let few = is.few in omega (arith, expired-few (found a) a.node, few, states);
  rest = purged-is a.node;
  full = ap (list_any is_overfull) (points-is a.node);
  counted = ap (list_any is_overcounted) (points-is a.node);
  all = omega arith;
  writes = writes-none 0 a;
}

-- the next state that is to be deleted, by the timeouts of k states
pub record IsNext (k : ℕ) (b : Draft) (s : State) : Type 0 where
  pub expired : expired_among k b.node ≡ s ∷ expired_among k (deleted b.node s)
  pub points : points_among k b.node ≡ deleted b.node s ∷ points_among k (deleted b.node s)
  pub stands : maps.get b.node.states s.name ≡ Some s
  pub rest : purged_among k b.node ≡ purged_among k (deleted b.node s)
  pub room : 5 ≤ b.edits.spare

pub next-is : (a b : Draft) (count : ℕ) (over : Bool) (k : ℕ) (s : State) → AreParts b.node → IsPurged a b count over → k ≡ found a
    → slice_get (expired_among k b.node) 0 ≡ Some s → IsNext (found a) b s
next-is a b count over k s is so same at =
    let first : slice_get (expired_among (found a) b.node) 0 ≡ Some s = rw same at at in
    let expired = expired-next (found a) b.node s is first in
    let long = ap (λ (ss : List State). length ss) expired in
    let room = so.room in
    record {
      expired = expired;
      points = points-next (found a) b.node s is first;
      stands = first-stands (found a) b.node s is first;
      rest = purged-next (found a) b.node s is first;
      room = omega (arith, room, long);
    }

assoc : (a b c : Bool) → ((a || b) || c) ≡ (a || (b || c))
assoc true b c = refl
assoc false b c = refl

module _ (a b : Draft) (count : ℕ) (over : Bool) (so : IsPurged a b count over) (s : State) (next : IsNext (found a) b s) where
  long : length (expired_among (found a) b.node) ≡ length (expired_among (found a) (deleted b.node s)) + 1
  long = let more = ap (λ (ss : List State). length ss) next.expired in omega (arith, more)

  -- one is left less
  pub fewer : length (expired_among (found a) (deleted b.node s)) < length (expired_among (found a) b.node)
  fewer = omega (arith, long)

  pub counted-few : count ≤ 65535
  counted-few = let few = so.few in let all = so.all in omega (arith, few, all, long)

  pub purged-more : (d : Draft) (now : Bool) → d.node ≡ deleted b.node s → Writes 5 b d → is_overfull d.node ≡ false
      → now ≡ is_overcounted d.node → IsPurged a d (count + 1) (over || now)
  purged-more d now same more fits counts =
      let spare = more.spare in
      let room = so.room in
      let all = so.all in
      let left = ap (λ (v : Node). length (expired_among (found a) v)) same in
      record {
        room = omega (arith, room, long, spare, left);
        few = so.few;
        rest = ap (purged_among (found a)) same ∙ (sym next.rest ∙ so.rest);
        full =
            ap (λ f. f || list_any is_overfull (points_among (found a) d.node)) (sym fits)
            ∙ (ap (λ (v : Node). is_overfull v || list_any is_overfull (points_among (found a) v)) same
            ∙ (ap (list_any is_overfull) (sym next.points) ∙ so.full));
        counted =
            ap (λ f. (over || f) || list_any is_overcounted (points_among (found a) d.node)) counts
            ∙ (assoc over (is_overcounted d.node) (list_any is_overcounted (points_among (found a) d.node))
            ∙ (ap (λ (v : Node). over || (is_overcounted v || list_any is_overcounted (points_among (found a) v))) same
            ∙ (ap (λ (ps : List Node). over || list_any is_overcounted ps) (sym next.points) ∙ so.counted)));
        all = omega (arith, all, long, left);
        writes = writes-more (5 * count + 5) (5 * (count + 1)) a d (omega arith) (writes-then (5 * count) 5 a b d so.writes more);
      }

  -- too much is pending after the next one
  pub purged-full : is_overfull (deleted b.node s) ≡ true → list_any is_overfull (purge_points a.node) ≡ true
  purged-full e = sym so.full ∙ (ap (list_any is_overfull) next.points ∙ ap (λ f. f || list_any is_overfull (points_among (found a) (deleted b.node s))) e)

  -- and what was recorded till then
  pub purged-stops : (d : Draft) → Writes 5 b d → Writes (5 * length (expired_states a.node)) a d
  purged-stops d more =
      let all = so.all in
      writes-more (5 * count + 5) (5 * length (expired_states a.node)) a d (omega (arith, all, long)) (writes-then (5 * count) 5 a b d so.writes more)

-- where none is left, the purge is done
pub record IsDone (a b : Draft) (count : ℕ) (over : Bool) : Type 0 where
  pub node : b.node ≡ purged a.node
  pub full : list_any is_overfull (purge_points a.node) ≡ false
  pub counted : over ≡ list_any is_overcounted (purge_points a.node)
  pub all : count ≡ length (expired_states a.node)
  pub writes : Writes (5 * length (expired_states a.node)) a b

none_first : (ss : List State) → slice_get ss 0 ≡ None → ss ≡ []
none_first [] e = refl
none_first (s ∷ ss) e = absurd (cc)

or_false : (a : Bool) → a ≡ (a || false)
or_false true = refl
or_false false = refl

pub purged-done : (a b : Draft) (count : ℕ) (over : Bool) (k : ℕ) → IsPurged a b count over → k ≡ found a
    → slice_get (expired_among k b.node) 0 ≡ None → IsDone a b count over
purged-done a b count over k so same at =
    let empty = none_first (expired_among (found a) b.node) (rw same at at) in
    let long = ap (λ (ss : List State). length ss) empty in
    let all = so.all in
    let points = points-none (found a) b.node empty in
    record {
      node = sym (purged-none (found a) b.node empty) ∙ so.rest;
      full = sym so.full ∙ ap (list_any is_overfull) points;
      counted = or_false over ∙ (ap (λ (ps : List Node). over || list_any is_overcounted ps) (sym points) ∙ so.counted);
      all = omega (arith, all, long);
      writes = writes-more (5 * count) (5 * length (expired_states a.node)) a b (omega (arith, all, long)) so.writes;
    }

-- ---- where it ends

ends : (xs : List State) (n : Node) → is_overcounted n ≡ false → list_any is_overcounted (folds deleted n xs) ≡ false
    → is_overcounted (fold deleted n xs) ≡ false
ends [] n e h = e
ends (s ∷ xs) n e h = by (ends xs (deleted n s)) (is_overcounted (deleted n s)) refl h
  where
    by : (is_overcounted (deleted n s) ≡ false → list_any is_overcounted (folds deleted (deleted n s) xs) ≡ false
        → is_overcounted (fold deleted (deleted n s) xs) ≡ false) → (b : Bool) → is_overcounted (deleted n s) ≡ b
        → (b || list_any is_overcounted (folds deleted (deleted n s) xs)) ≡ false → is_overcounted (fold deleted (deleted n s) xs) ≡ false
    by rest true is h = absurd (cc)
    by rest false is h = rest is h

-- where no number was too high at a point, none is at the end
pub purged-counted : (n : Node) → is_overcounted n ≡ false → list_any is_overcounted (purge_points n) ≡ false → is_overcounted (purged n) ≡ false
unfolding purged purge_points
purged-counted n e h = ends (expired_states n) n e h

pub purged-ends : {T : Type 0} (n m : Node) (tried : Result (T × Bool) Overfull) → is_overcounted n ≡ false → OnOk tried (m ≡ purged n)
    → (t : T) → tried ≡ Ok (t, false) → list_any is_overcounted (purge_points n) ≡ false → is_overcounted m ≡ false
purged-ends n m tried low node t stands none =
    let same : m ≡ purged n = subst (λ (q : Result _ Overfull). OnOk q (m ≡ purged n)) stands node in
    ap is_overcounted same ∙ purged-counted n low none
