-- What each call of an arena leaves in it.
use Rattle.std.proofs.Common.{◌≡◌, ◌<◌, ◌≤◌, ◌-◌, ◌+◌, ◌^◌, inl, inr, ℕ, zero, suc, cond, T, List, [], ◌∷◌, ◌++◌, length, length-append, set, Option}
use Rattle.std.proofs.Common.{Some, None, is_some, refl, sym, ap, subst, ◌∙◌, arith, vec_len, vec_capacity}
use Rattle.std.specs.Prelude.{slice_get}
use Rattle.std.specs.Option.{option_map}
use Rattle.std.specs.Vec.{with_items}
use Rattle.std.proofs.lemmas.List.{with_items_is, length-set}
use Rattle.std.specs.declared.vec.Vec.{Vec}
use Rattle.std.specs.declared.cmp.Ordering.{Ordering}
use Rattle.std.specs.Cmp.{IsTotalOrder}
use Rattle.std.specs.FinMap.Entries.{put, find, is_sorted, is_sorted-put, is_sorted-where_key, length-put, length_without}
use Rattle.pfl_containers.specs.declared.order.node.Node.{Node}
use Rattle.pfl_containers.specs.declared.order.node.TheConstants.{NO_PLACE}
use Rattle.pfl_containers.specs.declared.order.changes.Grown.{Grown}
use Rattle.pfl_containers.specs.declared.order.changes.Parted.{Parted}
use Rattle.pfl_containers.specs.declared.order.changes.Taken.{Taken}
use Rattle.pfl_containers.specs.declared.order.changes.Remaining.{Remaining}
use Rattle.pfl_containers.specs.declared.order.arena.Arena.{Arena}
use Rattle.pfl_containers.specs.inner.Trees.{Tree, leaf, once, entries, uses, Holds, Makes}
use Rattle.pfl_containers.specs.inner.Searches.{under, Finds}
use Rattle.pfl_containers.specs.inner.Changes.{without, HasItem, Inserts, Parts, Removes}
use Rattle.pfl_containers.specs.inner.Balances.{IsBalanced}
use Rattle.pfl_containers.specs.inner.Arenas.{Fills, none_held, Stores, IsArena, HasRoom, TakesPlace, Locates, Changes, Gains, Loses}
use Rattle.pfl_containers.proofs.Standing.{linked_joins, Holds-kept, uses_within, used_within, one_or_other, once_same, once_other}
use Rattle.pfl_containers.proofs.Searching.{find-under, stands-under}
use Rattle.pfl_containers.proofs.Changing.{changed}

slice_get-front : {A : Type 0} (xs ys : List A) (j : ℕ) → j < length xs → slice_get (xs ++ ys) j ≡ slice_get xs j
slice_get-front [] ys j h = absurd (omega arith)
slice_get-front (x ∷ xs) ys zero h = refl
slice_get-front (x ∷ xs) ys (suc j) h = slice_get-front xs ys j (omega arith)

-- the tree that is made, with what is known to have stood under the key, and the one that is left, with the node taken out of it
pub as_former : {K V : Type 0} {R : K → K
    → Ordering} {nodes new : List (Node K V)} {from place steps : ℕ} {item : Node K V} {grown : Grown V} {former : Option V} → grown.former ≡ former
    → Inserts R nodes new from place item steps grown → Inserts R nodes new from place item steps (record { link = grown.link; former = former })
as_former {K} {V} {R} {nodes} {new} {from} {place} {steps} {item} {grown} is inserts =
    subst (λ (f : Option V). Inserts R nodes new from place item steps (record { link = grown.link; former = f })) is inserts

pub as_taken : {K V : Type 0} {R : K → K
    → Ordering} {nodes new : List (Node K V)} {from steps : ℕ} {q : K} {rest : Remaining V} {taken : Option (Taken V)} → rest.taken ≡ taken
    → Removes R nodes new from q steps rest → Removes R nodes new from q steps (record { link = rest.link; taken = taken })
as_taken {K} {V} {R} {nodes} {new} {from} {steps} {q} {rest} is removes =
    subst (λ (t : Option (Taken V)). Removes R nodes new from q steps (record { link = rest.link; taken = t })) is removes

module _ {K V : Type 0} {limit capacity : ℕ} {nodes : List (Node K V)} {root free : ℕ} {t : Tree K V} {held : ℕ
    → ℕ} {count : ℕ} (f : Fills limit capacity nodes root free t held count)
    {new : List (Node K V)} {es : List (K × V)} {u : ℕ → ℕ} {S : Tree K V → Type 0} {link : ℕ} (m : Makes nodes new es u S link) (hold : ℕ → ℕ) (more : ℕ) where
  -- the tree is made anew,
  pub fills_made : ((j : ℕ) → hold j + u j ≡ held j + uses t j) → more + length es ≡ count + length (entries t)
      → Fills limit capacity new link free m.tree hold more
  fills_made places counts = record {
    spare = f.spare;
    holds = m.holds;
    spare_holds = Holds-kept nodes new f.spare free (λ h. omega (arith, h, m.long)) f.spare_holds (λ j p. m.keeps j (omega (arith, places j, f.apart j)));
    apart = λ j. omega (arith, places j, f.apart j, m.takes j);
    counted = omega (arith, counts, f.counted, ap length m.lists, m.long);
    few = omega (arith, f.few, m.long);
    room = f.room;
    short = f.short;
  }

  -- or that of the free places
  pub fills_spared : ((j : ℕ) → hold j + u j ≡ held j + uses f.spare j) → more + length es ≡ count + length (entries f.spare)
      → Fills limit capacity new root link t hold more
  fills_spared places counts = record {
    spare = m.tree;
    holds = Holds-kept nodes new t root (λ h. omega (arith, h, m.long)) f.holds (λ j p. m.keeps j (omega (arith, places j, f.apart j)));
    spare_holds = m.holds;
    apart = λ j. omega (arith, places j, f.apart j, m.takes j);
    counted = omega (arith, counts, f.counted, ap length m.lists, m.long);
    few = omega (arith, f.few, m.long);
    room = f.room;
    short = f.short;
  }

-- a place that was held is free again
freed_fills : {K V : Type 0} {limit capacity : ℕ} {mid xs : List (Node K V)} {root free : ℕ} {t : Tree K V} (place : ℕ) (freed : Node K V)
    → Fills limit capacity mid root free t (once place) 1 → place < length mid
    → xs ≡ set mid place freed → freed.left ≡ NO_PLACE → freed.right ≡ free → Fills limit capacity xs root place t none_held 0
freed_fills {K} {V} {limit} {capacity} {mid} {xs} {root} {free} {t} place freed f within is left right =
    let m = (linked_joins mid xs place freed freed.height (λ l r u. Unit {0}) is (λ l r can. tt)).makes leaf f.spare (record {
      left = (left, omega (arith, f.few, f.short));
      right = subst (Holds mid f.spare) (sym right) f.spare_holds;
      within = within;
      apart = λ j. omega (arith, f.apart j);
    }) in
    fills_spared f m none_held 0 (λ j. omega arith) (omega arith)

module _ {K V A : Type 0} {R : K → K → Ordering} (o : IsTotalOrder R) where
  -- what is written back to the nodes is what they are then
  pub written : (v : Vec (Node K V) A) (xs : List (Node K V)) → length xs ≡ length v.items → (with_items v xs).items ≡ xs
  written v xs same = with_items_is v xs (same ∙ sym v.ok.0)

  stored : (v : Vec (Node K V) A) (xs : List (Node K V)) → length xs ≡ length v.items
      → {limit len : ℕ} {root free : ℕ} {es : List (K × V)} {t : Tree K V} → Fills limit (vec_capacity v) xs root free t none_held 0
      → entries t ≡ es → T (is_sorted R es) → len ≡ length es → IsBalanced t
      → Stores R limit (record { nodes = with_items v xs; root = root; free = free; len = len }) es
  stored v xs same {limit} {len} {root} {free} {es} {t} f lists sorted long balanced = record {
    tree = t;
    fills = subst (λ (ns : List (Node K V)). Fills limit (vec_capacity v) ns root free t none_held 0) (sym (written v xs same)) f;
    lists = lists;
    sorted = sorted;
    long = long;
    balanced = balanced;
  }

  -- what is known of the tree of an arena
  module _ {limit : ℕ} {a : Arena K V A} {es : List (K × V)} (s : Stores R limit a es) where
    tree_sorted : T (is_sorted R (entries s.tree))
    tree_sorted = subst (λ (fs : List (K × V)). T (is_sorted R fs)) (sym s.lists) s.sorted

    tree_few : length (entries s.tree) < 2 ^ 32
    tree_few = omega (arith, s.fills.counted, s.fills.few, s.fills.short)

    found_some : (q : K) (place : ℕ) (node : Node K V) → under R s.tree q ≡ Some (place, node) → find R q (entries s.tree) ≡ Some node.value
    found_some q place node is = find-under o s.tree q tree_sorted ∙ ap (option_map (λ p. p.1.value)) is

  pub changes : (old : Arena K V A) (place : ℕ) (node : Node K V) (v : V) (xs : List (Node K V)) → xs ≡ set old.nodes.items place (record node { value = v })
      → Changes R old (record { nodes = with_items old.nodes xs; root = old.root; free = old.free; len = old.len }) place node v
  changes old place node v xs is = record {
    stores = λ limit es s q at.
        let m = changed o old.nodes.items s.tree old.root s.fills.holds (λ j. omega (arith, s.fills.apart j)) (tree_sorted s) q v place node at in
        let same = length-put R o q v (entries s.tree) (tree_sorted s)
        ∙ ap (λ (found : Option V). cond (is_some found) (length (entries s.tree)) (length (entries s.tree) + 1))
        (found_some s q place node at) in
        stored old.nodes xs (ap length is ∙ m.long)
        (subst (λ (ns : List (Node K V)). Fills limit (vec_capacity old.nodes) ns old.root old.free m.tree none_held 0) (sym is)
        (fills_made s.fills m none_held 0 (λ j. refl) (omega (arith, same))))
        (m.lists ∙ ap (put R q v) s.lists) (is_sorted-put R o q v es s.sorted)
        (omega (arith, s.long, same, ap (λ (fs : List (K × V)). length (put R q v fs)) s.lists, ap length s.lists))
        (m.says.alike s.balanced).0;
  }

  -- An entry was put in: its key is new, or another value stood under it and the place is free again.
  module _ (old mid : Arena K V A) (place : ℕ) (item : Node K V) (takes : TakesPlace R old mid place) (left : item.left ≡ NO_PLACE)
      (right : item.right ≡ NO_PLACE) where
    has_item : {made : List (Node K V)} {grown : Grown V} → Inserts R mid.nodes.items made mid.root place item mid.len grown
        → {limit : ℕ} {es : List (K × V)} (s : Stores R limit old es) → length es < limit → HasItem R mid.nodes.items made s.tree place item grown
    has_item inserts {limit} {es} s less =
        let f = takes.holding limit es s less in
        inserts.makes s.tree (record {
          holds = f.holds;
          left = left;
          right = right;
          within = takes.within;
          apart = λ j. omega (arith, f.apart j);
          sorted = tree_sorted s;
          deep = omega (arith, takes.long, s.long, ap length s.lists);
        })

    more : {former : Option V} {limit : ℕ} {es : List (K × V)} (s : Stores R limit old es) → former ≡ find R item.key (entries s.tree)
        → length (put R item.key item.value (entries s.tree)) ≡ cond (is_some former) (length (entries s.tree)) (length (entries s.tree) + 1)
    more s is = length-put R o item.key item.value (entries s.tree) (tree_sorted s)
        ∙ ap (λ (found : Option V). cond (is_some found) (length (entries s.tree)) (length (entries s.tree) + 1)) (sym is)

    pub gains_new : {made : List (Node K V)} {link : ℕ} → Inserts R mid.nodes.items made mid.root place item mid.len (record { link = link; former = None })
        → Gains R old (record { nodes = with_items mid.nodes made; root = link; free = mid.free; len = mid.len + 1 }) item.key item.value None
    gains_new {made} {link} inserts = record {
      stores = λ limit es s less.
          let f = takes.holding limit es s less in
          let has = has_item inserts s less in
          let m = has.made in
          let longer = more s has.former in (
            stored mid.nodes made m.long (fills_made f m none_held 0 (λ j. omega arith) (omega (arith, longer)))
                (m.lists ∙ ap (put R item.key item.value) s.lists) (is_sorted-put R o item.key item.value es s.sorted)
                (omega (arith, takes.long, s.long, longer, ap (λ (fs : List (K × V)). length (put R item.key item.value fs)) s.lists, ap length s.lists))
                (m.says.grown (tree_few s) s.balanced).0,
            has.former ∙ ap (find R item.key) s.lists,
          );
    }

    pub gains_known : {made : List (Node K V)} {link : ℕ} (former : V) (freed : Node K V) (xs : List (Node K V))
        → Inserts R mid.nodes.items made mid.root place item mid.len (record { link = link; former = Some former })
        → xs ≡ set (with_items mid.nodes made).items place freed → freed.left ≡ NO_PLACE → freed.right ≡ mid.free
        → Gains R old (record { nodes = with_items (with_items mid.nodes made) xs; root = link; free = place; len = mid.len }) item.key item.value (Some former)
    gains_known {made} {link} former freed xs inserts is no_left next = record {
      stores = λ limit es s less.
          let f = takes.holding limit es s less in
          let has = has_item inserts s less in
          let m = has.made in
          let longer = more s has.former in
          let held = fills_made f m (once place) 1 (λ j. omega arith) (omega (arith, longer)) in
          let there : xs ≡ set made place freed = is ∙ ap (λ (ns : List (Node K V)). set ns place freed) (written mid.nodes made m.long) in
          let all = freed_fills place freed held (omega (arith, takes.within, m.long)) there no_left next in (
            stored (with_items mid.nodes made) xs (ap length is ∙ length-set (with_items mid.nodes made).items place freed) all
                (m.lists ∙ ap (put R item.key item.value) s.lists) (is_sorted-put R o item.key item.value es s.sorted)
                (omega (arith, takes.long, s.long, longer, ap (λ (fs : List (K × V)). length (put R item.key item.value fs)) s.lists, ap length s.lists))
                (m.says.grown (tree_few s) s.balanced).0,
            has.former ∙ ap (find R item.key) s.lists,
          );
    }

  -- The tree without a key, where it had none,
  module _ (old : Arena K V A) (q : K) {mid : List (Node K V)} {link : ℕ} where
    pub loses_none : Removes R old.nodes.items mid old.root q old.len (record { link = link; taken = None })
        → Loses R old (record { nodes = with_items old.nodes mid; root = link; free = old.free; len = old.len }) q None
    loses_none removes = record {
      stores = λ limit es s.
          let f = s.fills in
          let lacks = removes.makes s.tree f.holds (λ j. omega (arith, f.apart j)) (tree_sorted s) (omega (arith, s.long, ap length s.lists)) in
          let m = lacks.sheds.made in
          let less = ap (λ (found : Option V). cond (is_some found) 1 0 + length (without R q (entries s.tree))) lacks.former
          ∙ length_without R o q (entries s.tree) (tree_sorted s) in (
            stored old.nodes mid m.long (fills_made f m none_held 0 (λ j. omega (arith, lacks.sheds.takes j)) (omega (arith, less)))
                (m.lists ∙ ap (without R q) s.lists) (is_sorted-where_key R _ es s.sorted)
                (omega (arith, s.long, less, ap (λ (fs : List (K × V)). length (without R q fs)) s.lists, ap length s.lists))
                (m.says.shrunk (tree_few s) s.balanced).0,
            lacks.former ∙ ap (find R q) s.lists,
          );
    }

    -- and where it had one, whose place is free then.
    pub loses_some : (taken : Taken V) (freed : Node K V) (xs : List (Node K V))
        → Removes R old.nodes.items mid old.root q old.len (record { link = link; taken = Some taken }) → xs ≡ set mid taken.place freed
        → freed.left ≡ NO_PLACE → freed.right ≡ old.free
        → Loses R old (record { nodes = with_items old.nodes xs; root = link; free = taken.place; len = old.len - 1 }) q (Some taken.value)
    loses_some taken freed xs removes is left right = record {
      stores = λ limit es s.
          let f = s.fills in
          let place = taken.place in
          let lacks = removes.makes s.tree f.holds (λ j. omega (arith, f.apart j)) (tree_sorted s) (omega (arith, s.long, ap length s.lists)) in
          let sheds = lacks.sheds in
          let less = ap (λ (found : Option V). cond (is_some found) 1 0 + length (without R q (entries s.tree))) lacks.former
          ∙ length_without R o q (entries s.tree) (tree_sorted s) in
          let pending = fills_made f sheds.made (once place) 1 (λ j. omega (arith, sheds.takes j)) (omega (arith, less)) in
          let within = used_within old.nodes.items s.tree old.root f.holds place (omega (arith, sheds.takes place, once_same place place refl)) in
          let all = freed_fills place freed pending (omega (arith, within, sheds.made.long)) is left right in (
            stored old.nodes xs (ap length is ∙ (length-set mid place freed ∙ sheds.made.long)) all
                (sheds.made.lists ∙ ap (without R q) s.lists) (is_sorted-where_key R _ es s.sorted)
                (omega (arith, s.long, less, ap (λ (fs : List (K × V)). length (without R q fs)) s.lists, ap length s.lists))
                (sheds.made.says.shrunk (tree_few s) s.balanced).0,
            lacks.former ∙ ap (find R q) s.lists,
          );
    }

    -- an arena that loses an entry is not empty
    pub some_lost : {taken : Taken V} → IsArena R old
        → Removes R old.nodes.items mid old.root q old.len (record { link = link; taken = Some taken }) → 0 < old.len
    some_lost {taken} is removes =
        let s = is.stores in
        let lacks = removes.makes s.tree s.fills.holds (λ j. omega (arith, s.fills.apart j)) (tree_sorted s) (omega (arith, s.long, ap length s.lists)) in
        omega (arith, not_empty (entries s.tree) (sym lacks.former), s.long, ap length s.lists)
      where
        not_empty : (fs : List (K × V)) → find R q fs ≡ Some taken.value → 0 < length fs
        not_empty [] e = absurd (cc)
        not_empty (x ∷ fs) e = omega arith

  pub takes_free : (old : Arena K V A) (first : Parted K V) (xs : List (Node K V)) (steps : ℕ) → HasRoom R old → steps ≡ vec_len old.nodes
      → Parts old.nodes.items xs old.free steps (Some first)
      → TakesPlace R old (record { nodes = with_items old.nodes xs; root = old.root; free = first.rest; len = old.len }) first.place
  takes_free old first xs steps room is_len parts =
      let all = is_len ∙ old.nodes.ok.0 in
      let parted = λ (limit : ℕ) (es : List (K × V)) (s : Stores R limit old es). parts.makes s.fills.spare s.fills.spare_holds
      (λ j. omega (arith, s.fills.apart j)) (omega (arith, all, s.fills.counted)) in
      let own = parted room.limit room.es room.stores in
      let same = written old.nodes xs own.sheds.made.long in
      record {
        holding = λ limit es s less.
            let p = parted limit es s in
            subst (λ (ns : List (Node K V)). Fills limit (vec_capacity old.nodes) ns old.root first.rest s.tree (once first.place) 1) (sym same)
            (fills_spared s.fills p.sheds.made (once first.place) 1 (λ j. omega (arith, p.sheds.takes j)) (omega (arith, ap length p.lists)));
        within = omega (arith, own.within, own.sheds.made.long, ap length same);
        long = refl;
      }

  pub takes_new : (old : Arena K V A) (item : Node K V) (xs : List (Node K V)) (steps : ℕ) → HasRoom R old → steps ≡ vec_len old.nodes
      → Parts old.nodes.items xs old.free steps None
      → (v : Vec (Node K V) A) → v.items ≡ (with_items old.nodes xs).items ++ item ∷ [] → vec_capacity v ≡ vec_capacity old.nodes
      → TakesPlace R old (record { nodes = v; root = old.root; free = old.free; len = old.len }) steps
  takes_new old item xs steps room is_len parts v items capacity =
      let all = is_len ∙ old.nodes.ok.0 in
      let none = λ (limit : ℕ) (es : List (K × V)) (s : Stores R limit old es). parts.makes s.fills.spare s.fills.spare_holds
      (λ j. omega (arith, s.fills.apart j)) (omega (arith, all, s.fills.counted)) in
      let own = none room.limit room.es room.stores in
      let is : v.items ≡ old.nodes.items ++ item ∷ [] =
      items ∙ ap (λ (ns : List (Node K V)). ns ++ item ∷ []) (written old.nodes xs (ap length own.1) ∙ own.1) in
      let longer = ap length is ∙ length-append old.nodes.items (item ∷ []) in
      record {
        holding = λ limit es s less.
            let f = s.fills in
            let spare = ap (λ (u : Tree K V). length (entries u)) (none limit es s).0 in
            let few : length v.items ≤ limit = omega (arith, f.counted, longer, spare, less, ap length s.lists) in
            let kept = λ (t : Tree K V) (link : ℕ) (h : Holds old.nodes.items t link). Holds-kept old.nodes.items v.items t link
            (λ _. omega (arith, few, f.short)) h (λ j p. ap (λ (ns : List (Node K V)). slice_get ns j) is
            ∙ slice_get-front old.nodes.items (item ∷ []) j (used_within old.nodes.items t link h j p)) in
            record {
              spare = f.spare;
              holds = kept s.tree old.root f.holds;
              spare_holds = kept f.spare old.free f.spare_holds;
              apart = λ j. elim (one_or_other steps j) [
                | inl e ↦ omega (
                  arith,
                  once_same steps j e,
                  uses_within old.nodes.items s.tree old.root f.holds j
                      (omega (arith, e, all)),
                  uses_within old.nodes.items f.spare old.free f.spare_holds j (omega (arith, e, all)),
                )
                | inr e ↦ omega (arith, once_other steps j e, f.apart j)
              ];
              counted = omega (arith, f.counted, longer);
              few = few;
              room = omega (arith, f.room, capacity);
              short = f.short;
            };
        within = omega (arith, all, longer);
        long = refl;
      }

  -- no entries
  pub starts : (v : Vec (Node K V) A) (limit : ℕ) → v.items ≡ [] → limit ≤ vec_capacity v → limit < 2 ^ 32
      → Stores R limit (record { nodes = v; root = NO_PLACE; free = NO_PLACE; len = 0 }) []
  starts v limit none room short =
      let empty : length v.items ≡ 0 = ap length none in
      record {
        tree = leaf;
        fills = record {
          spare = leaf;
          holds = (refl, omega (arith, empty));
          spare_holds = (refl, omega (arith, empty));
          apart = λ j. omega arith;
          counted = sym empty;
          few = omega (arith, empty);
          room = room;
          short = short;
        };
        lists = refl;
        sorted = tt;
        long = refl;
        balanced = tt;
      }

  pub locates_none : (a : Arena K V A) (q : K) → Finds R a.nodes.items a.root q a.len None → Locates R a q None
  locates_none a q finds = record {
    is = λ limit es s. none (under R s.tree q) (finds.is s.tree s.fills.holds (omega (arith, s.long, ap length s.lists)));
  }
    where
      none : (o : Option (ℕ × Node K V)) → None ≡ option_map (λ p. p.0) o → None ≡ o
      none None e = refl
      none (Some p) e = absurd (cc)

  pub locates_some : (a : Arena K V A) (q : K) (place : ℕ) (found : Option (Node K V)) → Finds R a.nodes.items a.root q a.len (Some place)
      → found ≡ slice_get a.nodes.items place → Locates R a q (option_map (λ n. (place, n)) found)
  locates_some a q place found finds is = record {
    is = λ limit es s.
        ap (option_map (λ n. (place, n))) is
        ∙ stands-under R a.nodes.items s.tree a.root s.fills.holds q place (finds.is s.tree s.fills.holds (omega (arith, s.long, ap length s.lists)));
  }
