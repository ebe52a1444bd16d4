-- What each call of a map does to what contracts see of it.
use Rattle.std.proofs.Common.{◌≡◌, ◌≤◌, ◌<◌, ◌+◌, ℕ, zero, suc, cond, T, List, [], length, length-append, ◌∷◌, Option, Some, None, is_some, refl, sym}
use Rattle.std.proofs.Common.{ap, subst, ◌∙◌, arith}
use Rattle.std.specs.Prelude.{slice_get, find as first_with}
use Rattle.std.specs.Option.{option_map}
use Rattle.std.proofs.lemmas.Option.{slice_get_past}
use Rattle.std.specs.Ordering.{is_lt}
use Rattle.std.specs.declared.cmp.Ordering.{Ordering}
use Rattle.std.specs.Cmp.{IsTotalOrder}
use Rattle.std.specs.FinMap.Entries.{find, is_sorted}
use Rattle.pfl_edits.specs.Maps as maps
use Rattle.pfl_edits.specs.Maps.{set_at}
use Rattle.pfl_edits.proofs.ForCallers.{len-insert}
use Rattle.pfl_containers.specs.declared.order.node.Node.{Node}
use Rattle.pfl_containers.specs.declared.order.arena.Arena.{Arena}
use Rattle.pfl_containers.specs.inner.Trees.{Tree, leaf, fork, entries, Holds}
use Rattle.pfl_containers.specs.inner.Arenas.{Stores, IsArena, HasRoom, Locates, Changes, Gains, Loses, Copies}
use Rattle.pfl_containers.specs.OrderEntries.{EntryList, map_of}
use Rattle.pfl_containers.specs.inner.Views.{IsNextBehind, tree_at, listed}
use Rattle.pfl_containers.proofs.OrderEntries.{get-map_of, len-map_of, map_of-put, map_of-without}
use Rattle.pfl_containers.proofs.Searching.{find-under}
use Rattle.pfl_containers.proofs.Sorted.{filter-next, filter-first, filter-none}

module _ {K V : Type 0} where
  abbrev step : List (Node K V) → ℕ → ℕ → Option (Node K V) → Tree K V
  step nodes steps i found = elim found [ None ↦ leaf | Some n ↦ fork (tree_at nodes steps n.left) i n (tree_at nodes steps n.right) ]

  -- a tree is read as what stands there
  tree_at-holds : (nodes : List (Node K V)) (t : Tree K V) (link : ℕ) (steps : ℕ) → Holds nodes t link → length (entries t) ≤ steps
      → tree_at nodes steps link ≡ t
  unfolding tree_at
  tree_at-holds nodes leaf link zero h d = refl
  tree_at-holds nodes leaf link (suc steps) h d = let past : length nodes ≤ link = omega (arith, h.0, h.1)
      in ap (step nodes steps link) (slice_get_past nodes link past)
  tree_at-holds nodes (fork l i n r) link zero h d = absurd (omega (arith, length-append (entries l) ((n.key, n.value) ∷ entries r)))
  tree_at-holds nodes (fork l i n r) link (suc steps) h d =
      let e = length-append (entries l) ((n.key, n.value) ∷ entries r) in
      ap (tree_at nodes (suc steps)) h.0 ∙ (ap (step nodes steps i) h.1
      ∙ (ap (λ (t : Tree K V). fork t i n (tree_at nodes steps n.right)) (tree_at-holds nodes l n.left steps h.2 (omega (arith, e)))
      ∙ ap (λ (t : Tree K V). fork l i n t) (tree_at-holds nodes r n.right steps h.3 (omega (arith, e)))))

module _ {K V A : Type 0} {R : K → K → Ordering} where
  -- what an arena stores is read from it
  pub listed_is : {limit : ℕ} {a : Arena K V A} {es : List (K × V)} → Stores R limit a es → listed a ≡ es
  listed_is {limit} {a} s = ap entries (tree_at-holds a.nodes.items s.tree a.root a.len s.fills.holds (omega (arith, s.long, ap length s.lists))) ∙ s.lists

  pub is_arena : {limit : ℕ} {a : Arena K V A} {es : List (K × V)} → Stores R limit a es → IsArena R a
  is_arena {limit} {a} {es} s = record { limit = limit; es = es; stores = s }

  pub stores_listed : {limit : ℕ} {a : Arena K V A} {es : List (K × V)} → Stores R limit a es → Stores R limit a (listed a)
  stores_listed {limit} {a} s = subst (Stores R limit a) (sym (listed_is s)) s

-- the new arena's map is the old one's with this under the key
pub record SetsEntry {K V A : Type 0} (R : K → K → Ordering) (limit : ℕ) (new : Arena K V A) (es : List (K × V)) (q : K) (at : Option V) : Type 0 where
  pub kept : Stores R limit new (listed new)
  pub map : map_of R (listed new) ≡ set_at (map_of R es) q at

module _ {K V A : Type 0} {R : K → K → Ordering} (o : IsTotalOrder R) (limit : ℕ) (a : Arena K V A) (s : Stores R limit a (listed a)) (q : K) where
  got : {found : Option (ℕ × Node K V)} → Locates R a q found → option_map (λ p. p.1.value) found ≡ maps.get (map_of R (listed a)) q
  got l =
      ap (option_map (λ p. p.1.value)) (l.is limit (listed a) s)
      ∙ (sym (find-under o s.tree q (subst (λ (es : List (K × V)). T (is_sorted R es)) (sym s.lists) s.sorted))
      ∙ (ap (find R q) s.lists ∙ sym (get-map_of R (listed a) q s.sorted)))

  -- what stood there
  pub former_some : {place : ℕ} {node : Node K V} → Locates R a q (Some (place, node)) → Some node.value ≡ maps.get (map_of R (listed a)) q
  former_some l = got l

  pub former_none : Locates R a q None → None ≡ maps.get (map_of R (listed a)) q
  former_none l = got l

  -- and where another value is put there
  pub former_before : {new : Arena K V A} {v : V} {former : Option V} → length (listed a) < limit → Gains R a new q v former
      → former ≡ maps.get (map_of R (listed a)) q
  former_before less gains = (gains.stores limit (listed a) s less).1 ∙ sym (get-map_of R (listed a) q s.sorted)

  -- and where it is given as it is taken out
  pub former_lost : {new : Arena K V A} {former : Option V} → Loses R a new q former → former ≡ maps.get (map_of R (listed a)) q
  former_lost loses = (loses.stores limit (listed a) s).1 ∙ sym (get-map_of R (listed a) q s.sorted)

  module _ (at : Option V) where
    -- another value under the key
    pub entry_changed : {new : Arena K V A} {place : ℕ} {node : Node K V} (v : V) → Locates R a q (Some (place, node))
        → Changes R a new place node v → at ≡ Some v → SetsEntry R limit new (listed a) q at
    entry_changed v l changes is =
        let made = changes.stores limit (listed a) s q (sym (l.is limit (listed a) s)) in
        record {
          kept = stores_listed made;
          map = ap (map_of R) (listed_is made) ∙ (map_of-put o (listed a) s.sorted q v ∙ ap (set_at (map_of R (listed a)) q) (sym is));
        }

    -- the entry taken out, if there was one
    pub entry_removed : {new : Arena K V A} {former : Option V} → Loses R a new q former → at ≡ None → SetsEntry R limit new (listed a) q at
    entry_removed loses is =
        let made = (loses.stores limit (listed a) s).0 in
        record {
          kept = stores_listed made;
          map = ap (map_of R) (listed_is made) ∙ (map_of-without o (listed a) s.sorted q ∙ ap (set_at (map_of R (listed a)) q) (sym is));
        }

    -- `asked` is what the caller knows of the whole value, of which the entries and the limit are the fields
    module _ (whole : EntryList K V) (fields : record { list = listed a; limit = limit } ≡ whole)
        (asked : maps.len (set_at (map_of R whole.list) q at) ≤ whole.limit) (v : V) (l : Locates R a q None) (is : at ≡ Some v) where
      less : length (listed a) < limit
      less =
          let room : maps.len (set_at (map_of R (listed a)) q at) ≤ limit =
          subst (λ (m : EntryList K V). maps.len (set_at (map_of R m.list) q at) ≤ m.limit) (sym fields) asked in
          let more : maps.len (maps.insert (map_of R (listed a)) q v) ≤ limit =
          subst (λ (x : Option V). maps.len (set_at (map_of R (listed a)) q x) ≤ limit) is room in
          let grows = len-insert o (map_of R (listed a)) q v
          ∙ ap (λ (x : Option V). cond (is_some x) (maps.len (map_of R (listed a))) (maps.len (map_of R (listed a)) + 1)) (sym (former_none l)) in
          omega (arith, grows, more, len-map_of R (listed a) s.sorted)

      -- so that a full map has the key
      pub not_full : limit ≤ a.len → ⊥
      not_full full = omega (arith, less, full, s.long)

    -- the entry put in
    pub entry_added : {new : Arena K V A} {former : Option V} (v : V) → length (listed a) < limit → Gains R a new q v former → at ≡ Some v
        → SetsEntry R limit new (listed a) q at
    entry_added v less gains is =
        let made = (gains.stores limit (listed a) s less).0 in
        record {
          kept = stores_listed made;
          map = ap (map_of R) (listed_is made) ∙ (map_of-put o (listed a) s.sorted q v ∙ ap (set_at (map_of R (listed a)) q) (sym is));
        }

  -- where not all room is taken, there is room for an entry more
  pub less_than : a.len < limit → length (listed a) < limit
  less_than h = omega (arith, h, s.long)

  pub room_left : a.len < limit → HasRoom R a
  room_left h = record { limit = limit; es = listed a; stores = s; less = less_than h }

-- a copy is seen as what it was made of
pub copied_is : {K V A : Type 0} {R : K → K → Ordering} {limit : ℕ} {a new : Arena K V A} → Stores R limit a (listed a)
    → Copies R limit a new → ◌≡◌ {A = EntryList K V} (record { list = listed new; limit = limit }) (record { list = listed a; limit = limit })
copied_is {K} {V} {A} {R} {limit} {a} s copies = ap (λ (es : List (K × V)). record { list = es; limit = limit }) (listed_is (copies.stores (listed a) s))

-- the next entry, and those after it
module _ {K V : Type 0} {R : K → K → Ordering} (o : IsTotalOrder R) (es : List (K × V)) (sorted : T (is_sorted R es)) where
  pub next_after_key : (q : K) (found : Option (K × V)) → found ≡ first_with (λ e. is_lt (R q e.0)) es → IsNextBehind R (Some q) es found
  next_after_key q None is = filter-none _ es is
  next_after_key q (Some e) is = filter-next o q es e sorted is

  pub next_of_all : (found : Option (K × V)) → found ≡ slice_get es 0 → IsNextBehind R None es found
  next_of_all None is = empty es is
    where
      empty : (fs : List (K × V)) → None ≡ slice_get fs 0 → fs ≡ []
      empty [] e = refl
      empty (x ∷ fs) e = absurd (cc)
  next_of_all (Some e) is = filter-first o es e sorted is
