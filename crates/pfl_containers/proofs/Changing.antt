-- What each step of an insertion and of a removal makes.
use Rattle.std.proofs.Common.{◌≡◌, ◌≤◌, ◌-◌, ◌+◌, ℕ, T, List, ◌∷◌, ◌++◌, set, Option, Some, None, refl, sym, ap, subst, ◌∙◌, arith}
use Rattle.std.proofs.lemmas.Option.{slice_get_within}
use Rattle.std.specs.Prelude.{slice_get}
use Rattle.std.specs.declared.cmp.Ordering.{Ordering}
use Rattle.std.specs.declared.cmp.Ordering.TheVariants.{Less, Equal, Greater}
use Rattle.std.specs.Cmp.{IsTotalOrder}
use Rattle.std.specs.FinMap.Entries.{put, by_order, is_sorted}
use Rattle.pfl_containers.specs.declared.order.node.Node.{Node}
use Rattle.pfl_containers.specs.declared.order.changes.Grown.{Grown}
use Rattle.pfl_containers.specs.declared.order.changes.Parted.{Parted}
use Rattle.pfl_containers.specs.declared.order.changes.Remaining.{Remaining}
use Rattle.pfl_containers.specs.inner.Trees.{Tree, leaf, fork, once, entries, uses, Holds, Makes, Joins}
use Rattle.pfl_containers.specs.inner.Searches.{under}
use Rattle.pfl_containers.specs.inner.Changes.{added, CanInsert, HasItem, Inserts, IsParted, Parts, Merges, LacksKey, Removes}
use Rattle.pfl_containers.specs.inner.Balances.{height_of, depth, IsBalanced, Links, Balances, TakesLeft, TakesRight, Grows}
use Rattle.pfl_containers.proofs.Balances.{height-is, grows_leaf, grows_left, grows_right, shrinks_leaf, shrinks_first, shrinks_left, shrinks_right}
use Rattle.pfl_containers.proofs.Balances.{shrinks_here, unites_below}
use Rattle.pfl_containers.proofs.Standing.{Stands, stands, stands_not, once_same, Alike, Makes-as, join_left, join_right, stay_left, stay_right, linked_joins}
use Rattle.pfl_containers.proofs.Searching.{deep, no_steps}
use Rattle.pfl_containers.proofs.Sorted.{sides, find-less, find-equal, find-greater, put-front, put-equal, put-greater, without-less, without-equal}
use Rattle.pfl_containers.proofs.Sorted.{without-greater}

-- an item takes no place but its own
pub added-once : {V : Type 0} (former : Option V) (place j : ℕ) → added former place j ≤ once place j
added-once None place j = omega arith
added-once (Some v) place j = omega arith

module _ {K V : Type 0} where
  module _ {nodes : List (Node K V)} {link : ℕ} where
    -- the first node of a tree
    pub insert_leaf : {R : K → K → Ordering} {new : List (Node K V)} {place : ℕ} {item : Node K V} {made : ℕ} (steps : ℕ)
        → None ≡ slice_get nodes link → Joins nodes new place item Links made
        → Inserts R nodes new link place item steps (record { link = made; former = None })
    insert_leaf {R} {new} {place} {item} {made} steps at joins = record {
      makes = λ t can.
          let none = stands_not nodes t link can.holds at in
          let empty : Holds nodes leaf link = subst (λ (u : Tree K V). Holds nodes u link) none can.holds in
          let m = joins.makes leaf leaf
          (record { left = (can.left, empty.1); right = (can.right, empty.1); within = can.within; apart = λ j. omega (arith, can.apart j) }) in
          subst (λ (u : Tree K V). HasItem R nodes new u place item (record { link = made; former = None })) (sym none)
          (record { former = refl; made = Makes-as m refl (λ j. omega arith) grows_leaf });
    }

    pub part_leaf : (steps : ℕ) → None ≡ slice_get nodes link → Parts nodes nodes link steps None
    part_leaf steps at = record { makes = λ t h apart d. (stands_not nodes t link h at, refl) }

    pub remove_nothing : (R : K → K → Ordering) (q : K) (steps : ℕ) → None ≡ slice_get nodes link
        → Removes R nodes nodes link q steps (record { link = link; taken = None })
    remove_nothing R q steps at = record {
      makes = λ t h apart sorted d.
          let none = stands_not nodes t link h at in
          subst (λ (u : Tree K V). LacksKey R nodes nodes q u (record { link = link; taken = None })) (sym none) (record {
            former = refl;
            sheds = record {
              others = λ j. 0;
              takes = λ j. refl;
              made = record {
                tree = leaf;
                holds = subst (λ (u : Tree K V). Holds nodes u link) none h;
                lists = refl;
                takes = λ j. refl;
                keeps = λ j zero. refl;
                long = refl;
                says = shrinks_leaf;
              };
            };
          });
    }

    -- At this node of the tree.
    module _ {node : Node K V} (at : Some node ≡ slice_get nodes link) where
      -- a change that takes no place here leaves this node
      stays : {mid : List (Node K V)} {es : List (K × V)} {u : ℕ → ℕ} {S : Tree K V → Type 0} {part : ℕ} → Makes nodes mid es u S part
          → u link ≡ 0 → slice_get mid link ≡ Some node
      stays m none = m.keeps link none ∙ sym at

      -- its trees' heights
      deep_left : (t : Tree K V) (s : Stands nodes t link node) {was : ℕ} → was ≡ height_of nodes node.left → IsBalanced s.l → was ≡ depth s.l
      deep_left t s high b = high ∙ height-is nodes s.l node.left s.left b

      deep_right : (t : Tree K V) (s : Stands nodes t link node) {was : ℕ} → was ≡ height_of nodes node.right → IsBalanced s.r → was ≡ depth s.r
      deep_right t s high b = high ∙ height-is nodes s.r node.right s.right b

      pub insert_no_steps : (R : K → K → Ordering) (place : ℕ) (item : Node K V) (steps : ℕ) → steps ≡ 0
          → Inserts R nodes nodes link place item steps (record { link = link; former = None })
      insert_no_steps R place item steps zero = record { makes = λ t can. absurd (no_steps nodes t link node steps can.holds at can.deep zero) }

      pub part_no_steps : (steps : ℕ) → steps ≡ 0 → Parts nodes nodes link steps None
      part_no_steps steps zero = record { makes = λ t h apart d. absurd (no_steps nodes t link node steps h at d zero) }

      pub remove_no_steps : (R : K → K → Ordering) (q : K) (steps : ℕ) → steps ≡ 0 → Removes R nodes nodes link q steps (record { link = link; taken = None })
      remove_no_steps R q steps zero = record { makes = λ t h apart sorted d. absurd (no_steps nodes t link node steps h at d zero) }

      -- The item goes in below the node.
      module _ {R : K → K → Ordering} {place : ℕ} {item : Node K V} {steps : ℕ} where
        can_at : (t : Tree K V) → CanInsert R nodes t link place item steps → (s : Stands nodes t link node)
            → CanInsert R nodes (fork s.l link node s.r) link place item steps
        can_at t can s = subst (λ (u : Tree K V). CanInsert R nodes u link place item steps) s.is can

        pub insert_equal : IsTotalOrder R → {new : List (Node K V)} → Equal ≡ R item.key node.key
            → new ≡ set nodes link (record node { value = item.value })
            → Inserts R nodes new link place item steps (record { link = link; former = Some node.value })
        insert_equal o {new} is written = record {
          makes = λ t can.
              let s = stands nodes t link can.holds node at in
              let there = can_at t can s in
              let z = sides R (entries s.l) (node.key, node.value) (entries s.r) there.sorted in
              let other : Node K V = record node { value = item.value } in
              let m = (linked_joins nodes new link other node.height (λ l r u. Grows (fork l link node r) u) written
              (λ l r c. record { grown = λ few b. (b, omega arith, omega arith) })).makes s.l s.r
              (record { left = s.left; right = s.right; within = s.within; apart = λ j. omega (arith, there.apart j) }) in
              subst (λ (u : Tree K V). HasItem R nodes new u place item (record { link = link; former = Some node.value })) (sym s.is) (record {
                former = sym (find-equal o item.key (entries s.l) (node.key, node.value) (entries s.r) z (sym is));
                made = Makes-as m (sym (put-equal o item.key (entries s.l) (node.key, node.value) (entries s.r) z item.value (sym is)))
                    (λ j. omega arith) (λ u w. w);
              });
        }

      module _ {R : K → K → Ordering}
          (o : IsTotalOrder R) {mid new : List (Node K V)} {place : ℕ} {item : Node K V} {steps : ℕ} {part : Grown V} {made was : ℕ} where
        pub insert_left : Less ≡ R item.key node.key → was ≡ height_of nodes node.left
            → Inserts R nodes mid node.left place item (steps - 1) part → TakesLeft mid new link part.link was made
            → Inserts R nodes new link place item steps (record { link = made; former = part.former })
        insert_left is high inserts takes = record {
          makes = λ t can.
              let s = stands nodes t link can.holds node at in
              let there = can_at t can s in
              let d = deep nodes t link node s steps can.deep in
              let z = sides R (entries s.l) (node.key, node.value) (entries s.r) there.sorted in
              let has = inserts.makes s.l (record {
                holds = s.left;
                left = can.left;
                right = can.right;
                within = can.within;
                apart = λ j. omega (arith, there.apart j);
                sorted = z.left;
                deep = d.left;
              }) in
              let below = has.made in
              let all = join_left node below s.r s.right s.within (λ j. omega (arith, there.apart j, added-once part.former place j))
              (takes.joins node (stays below (omega (arith, there.apart link, added-once part.former place link, once_same link link refl)))) in
              subst (λ (u : Tree K V). HasItem R nodes new u place item (record { link = made; former = part.former })) (sym s.is) (record {
                former = has.former ∙ sym (find-less o item.key (entries s.l) (node.key, node.value) (entries s.r) z (sym is));
                made = Makes-as all (sym (put-front R item.key item.value (entries s.l) (node.key, node.value) (entries s.r) (sym is))) (λ j. omega arith)
                    (λ u w. grows_left s.l s.r link node w.0 u was (deep_left t s high) w.1 w.2);
              });
        }

        pub insert_right : Greater ≡ R item.key node.key → was ≡ height_of nodes node.right
            → Inserts R nodes mid node.right place item (steps - 1) part → TakesRight mid new link part.link was made
            → Inserts R nodes new link place item steps (record { link = made; former = part.former })
        insert_right is high inserts takes = record {
          makes = λ t can.
              let s = stands nodes t link can.holds node at in
              let there = can_at t can s in
              let d = deep nodes t link node s steps can.deep in
              let z = sides R (entries s.l) (node.key, node.value) (entries s.r) there.sorted in
              let has = inserts.makes s.r (record {
                holds = s.right;
                left = can.left;
                right = can.right;
                within = can.within;
                apart = λ j. omega (arith, there.apart j);
                sorted = z.right;
                deep = d.right;
              }) in
              let below = has.made in
              let all = join_right node below s.l s.left s.within (λ j. omega (arith, there.apart j, added-once part.former place j))
              (takes.joins node (stays below (omega (arith, there.apart link, added-once part.former place link, once_same link link refl)))) in
              subst (λ (u : Tree K V). HasItem R nodes new u place item (record { link = made; former = part.former })) (sym s.is) (record {
                former = has.former ∙ sym (find-greater o item.key (entries s.l) (node.key, node.value) (entries s.r) z (sym is));
                made = Makes-as all (sym (put-greater o item.key (entries s.l) (node.key, node.value) (entries s.r) z item.value (sym is))) (λ j. omega arith)
                    (λ u w. grows_right s.l s.r link node w.0 u was (deep_right t s high) w.1 w.2);
              });
        }

      -- The first node is this one, or below it.
      pub part_here : {mid : List (Node K V)} {steps : ℕ} → Parts nodes mid node.left (steps - 1) None
          → Parts nodes mid link steps (Some (record { place = link; node = node; rest = node.right }))
      part_here {mid} {steps} parts = record {
        makes = λ t h apart d.
            let first : Parted K V = record { place = link; node = node; rest = node.right } in
            let s = stands nodes t link h node at in
            let there : (j : ℕ) → uses s.l j + (once link j + uses s.r j) ≤ 1 = λ j. subst (λ (u : Tree K V). uses u j ≤ 1) s.is (apart j) in
            let none = parts.makes s.l s.left (λ j. omega (arith, there j)) (deep nodes t link node s steps d).left in
            subst (λ (ns : List (Node K V)). IsParted nodes ns t first) (sym none.1)
            (subst (λ (u : Tree K V). IsParted nodes nodes u first) (sym (s.is ∙ ap (λ (l : Tree K V). fork l link node s.r) none.0)) (record {
              later = entries s.r;
              lists = refl;
              within = s.within;
              sheds = record {
                others = uses s.r;
                takes = λ j. omega arith;
                made = record {
                  tree = s.r;
                  holds = s.right;
                  lists = refl;
                  takes = λ j. refl;
                  keeps = λ j zero. refl;
                  long = refl;
                  says = shrinks_first s.r link node;
                };
              };
            }));
      }

      pub part_below : {mid new : List (Node K V)} {steps was : ℕ} {first : Parted K V} {made : ℕ} → was ≡ height_of nodes node.left
          → Parts nodes mid node.left (steps - 1) (Some first) → TakesLeft mid new link first.rest was made
          → Parts nodes new link steps (Some (record first { rest = made }))
      part_below {mid} {new} {steps} {was} {first} {made} high parts takes = record {
        makes = λ t h apart d.
            let s = stands nodes t link h node at in
            let there : (j : ℕ) → uses s.l j + (once link j + uses s.r j) ≤ 1 = λ j. subst (λ (u : Tree K V). uses u j ≤ 1) s.is (apart j) in
            let below = parts.makes s.l s.left (λ j. omega (arith, there j)) (deep nodes t link node s steps d).left in
            let all = join_left node below.sheds.made s.r s.right s.within (λ j. omega (arith, there j, below.sheds.takes j))
            (takes.joins node (stays below.sheds.made (omega (arith, there link, below.sheds.takes link, once_same link link refl)))) in
            subst (λ (u : Tree K V). IsParted nodes new u (record first { rest = made })) (sym s.is) (record {
              later = below.later ++ (node.key, node.value) ∷ entries s.r;
              lists = ap (λ (es : List (K × V)). es ++ (node.key, node.value) ∷ entries s.r) below.lists;
              within = below.within;
              sheds = record {
                others = λ j. below.sheds.others j + (once link j + uses s.r j);
                takes = λ j. omega (arith, below.sheds.takes j);
                made = Makes-as all refl (λ j. refl) (λ u w. shrinks_left s.l s.r link node w.0 u was (deep_left t s high) w.1 w.2);
              };
            });
      }

      -- The node of the key is below this one, or this one.
      module _ {R : K → K → Ordering} (o : IsTotalOrder R) (q : K) {new : List (Node K V)} {steps : ℕ} {made : ℕ} where
        pub remove_left : {mid : List (Node K V)} {part : Remaining V} {was : ℕ} → Less ≡ R q node.key → was ≡ height_of nodes node.left
            → Removes R nodes mid node.left q (steps - 1) part → TakesLeft mid new link part.link was made
            → Removes R nodes new link q steps (record { link = made; taken = part.taken })
        remove_left {mid} {part} {was} is high removes takes = record {
          makes = λ t h apart sorted d.
              let s = stands nodes t link h node at in
              let there : (j : ℕ) → uses s.l j + (once link j + uses s.r j) ≤ 1 = λ j. subst (λ (u : Tree K V). uses u j ≤ 1) s.is (apart j) in
              let z = sides R (entries s.l) (node.key, node.value) (entries s.r) (subst (λ (u : Tree K V). T (is_sorted R (entries u))) s.is sorted) in
              let lacks = removes.makes s.l s.left (λ j. omega (arith, there j)) z.left (deep nodes t link node s steps d).left in
              let below = lacks.sheds in
              let all = join_left node below.made s.r s.right s.within (λ j. omega (arith, there j, below.takes j))
              (takes.joins node (stays below.made (omega (arith, there link, below.takes link, once_same link link refl)))) in
              subst (λ (u : Tree K V). LacksKey R nodes new q u (record { link = made; taken = part.taken })) (sym s.is) (record {
                former = lacks.former ∙ sym (find-less o q (entries s.l) (node.key, node.value) (entries s.r) z (sym is));
                sheds = record {
                  others = λ j. below.others j + (once link j + uses s.r j);
                  takes = λ j. omega (arith, below.takes j);
                  made = Makes-as all (sym (without-less o q (entries s.l) (node.key, node.value) (entries s.r) z (sym is))) (λ j. refl)
                      (λ u w. shrinks_left s.l s.r link node w.0 u was (deep_left t s high) w.1 w.2);
                };
              });
        }

        pub remove_right : {mid : List (Node K V)} {part : Remaining V} {was : ℕ} → Greater ≡ R q node.key
            → was ≡ height_of nodes node.right → Removes R nodes mid node.right q (steps - 1) part → TakesRight mid new link part.link was made
            → Removes R nodes new link q steps (record { link = made; taken = part.taken })
        remove_right {mid} {part} {was} is high removes takes = record {
          makes = λ t h apart sorted d.
              let s = stands nodes t link h node at in
              let there : (j : ℕ) → uses s.l j + (once link j + uses s.r j) ≤ 1 = λ j. subst (λ (u : Tree K V). uses u j ≤ 1) s.is (apart j) in
              let z = sides R (entries s.l) (node.key, node.value) (entries s.r) (subst (λ (u : Tree K V). T (is_sorted R (entries u))) s.is sorted) in
              let lacks = removes.makes s.r s.right (λ j. omega (arith, there j)) z.right (deep nodes t link node s steps d).right in
              let below = lacks.sheds in
              let all = join_right node below.made s.l s.left s.within (λ j. omega (arith, there j, below.takes j))
              (takes.joins node (stays below.made (omega (arith, there link, below.takes link, once_same link link refl)))) in
              subst (λ (u : Tree K V). LacksKey R nodes new q u (record { link = made; taken = part.taken })) (sym s.is) (record {
                former = lacks.former ∙ sym (find-greater o q (entries s.l) (node.key, node.value) (entries s.r) z (sym is));
                sheds = record {
                  others = λ j. uses s.l j + (once link j + below.others j);
                  takes = λ j. omega (arith, below.takes j);
                  made = Makes-as all (sym (without-greater o q (entries s.l) (node.key, node.value) (entries s.r) z (sym is))) (λ j. refl)
                      (λ u w. shrinks_right s.l s.r link node w.0 u was (deep_right t s high) w.1 w.2);
                };
              });
        }

        pub remove_here : Equal ≡ R q node.key → Merges nodes new node.left node.right (steps - 1) made
            → Removes R nodes new link q steps (record { link = made; taken = Some (record { place = link; value = node.value }) })
        remove_here is merges = record {
          makes = λ t h apart sorted d.
              let s = stands nodes t link h node at in
              let there : (j : ℕ) → uses s.l j + (once link j + uses s.r j) ≤ 1 = λ j. subst (λ (u : Tree K V). uses u j ≤ 1) s.is (apart j) in
              let z = sides R (entries s.l) (node.key, node.value) (entries s.r) (subst (λ (u : Tree K V). T (is_sorted R (entries u))) s.is sorted) in
              let all = merges.makes s.l s.r s.left s.right (λ j. omega (arith, there j)) (deep nodes t link node s steps d).right in
              subst (λ (u : Tree K V). LacksKey R nodes new q u
              (record { link = made; taken = Some (record { place = link; value = node.value }) })) (sym s.is) (record {
                former = sym (find-equal o q (entries s.l) (node.key, node.value) (entries s.r) z (sym is));
                sheds = record {
                  others = λ j. uses s.l j + uses s.r j;
                  takes = λ j. omega arith;
                  made = Makes-as all (sym (without-equal o q (entries s.l) (node.key, node.value) (entries s.r) z (sym is)))
                      (λ j. refl) (shrinks_here s.l s.r link node);
                };
              });
        }

  -- two trees under the first node of the second
  pub merge_below : {nodes mid new : List (Node K V)} {left right : ℕ} {steps : ℕ} {first : Parted K V} {made : ℕ}
      → Parts nodes mid right steps (Some first)
      → Joins mid new first.place (record first.node { left = left; right = first.rest }) Balances made → Merges nodes new left right steps made
  merge_below {nodes} {mid} {new} {left} {right} {steps} {first} {made} parts joins = record {
    makes = λ l r hl hr apart d.
        let below = parts.makes r hr (λ j. omega (arith, apart j)) d in
        let node : Node K V = record first.node { left = left } in
        let all = join_right node below.sheds.made l hl below.within (λ j. omega (arith, apart j, below.sheds.takes j)) joins in
        Makes-as all (ap (λ (es : List (K × V)). entries l ++ es) (sym below.lists)) (λ j. omega (arith, below.sheds.takes j))
        (λ u w. unites_below l r w.0 u w.1 w.2);
  }

  -- another value in the node that a search finds
  pub changed : {R : K → K → Ordering} → IsTotalOrder R → (nodes : List (Node K V)) (t : Tree K V) (link : ℕ) → Holds nodes t link
      → ((j : ℕ) → uses t j ≤ 1) → T (is_sorted R (entries t))
      → (q : K) (v : V) (place : ℕ) (node : Node K V) → under R t q ≡ Some (place, node)
      → Makes nodes (set nodes place (record node { value = v })) (put R q v (entries t)) (uses t) (Alike t) link
  changed o nodes leaf link h apart sorted q v place node found = absurd (cc)
  changed {R} o nodes (fork l i n r) link h apart sorted q v place node found =
      let new : List (Node K V) = set nodes place (record node { value = v }) in
      let z = sides R (entries l) (n.key, n.value) (entries r) sorted in
      elim (R q n.key) as (λ c. R q n.key ≡ c → by_order c (under R l q) (Some (i, n)) (under R r q) ≡ Some (place, node)
      → Makes nodes new (put R q v (entries l ++ (n.key, n.value) ∷ entries r)) (λ j. uses l j + (once i j + uses r j))
      (Alike (fork l i n r)) link) [
        | Less ↦ λ is at. Makes-as (stay_left l (changed o nodes l n.left h.2 (λ j. omega (arith, apart j)) z.left q v place node at) h.1 h.0 r h.3 apart)
            (sym (put-front R q v (entries l) (n.key, n.value) (entries r) is)) (λ j. refl) (λ u w. w)
        | Equal ↦ λ is at.
            let both : (i, n) ≡ (place, node) = cc in
            let other : Node K V = record n { value = v } in
            let m = (linked_joins nodes (set nodes i other) i other n.height (λ l r t. Alike (fork l i n r) t) refl
            (λ l r can. record { alike = λ b. (b, refl) })).makes l r
            (record { left = h.2; right = h.3; within = slice_get_within nodes i n h.1; apart = apart }) in
            subst (λ (a : ℕ). Makes nodes new (put R q v (entries l ++ (n.key, n.value) ∷ entries r))
            (λ j. uses l j + (once i j + uses r j)) (Alike (fork l i n r)) a) (sym h.0)
            (subst (λ (p : ℕ × Node K V). Makes nodes (set nodes p.0 (record p.1 { value = v }))
            (put R q v (entries l ++ (n.key, n.value) ∷ entries r)) (λ j. uses l j + (once i j + uses r j)) (Alike (fork l i n r)) i) both
            (Makes-as m (sym (put-equal o q (entries l) (n.key, n.value) (entries r) z v is)) (λ j. refl) (λ u w. w)))
        | Greater ↦ λ is at. Makes-as (stay_right r (changed o nodes r n.right h.3 (λ j. omega (arith, apart j)) z.right q v place node at) h.1 h.0 l h.2 apart)
            (sym (put-greater o q (entries l) (n.key, n.value) (entries r) z v is)) (λ j. refl) (λ u w. w)
      ] refl found
