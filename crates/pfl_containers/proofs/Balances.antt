-- How deep a balanced tree may be, by its entries, and what each join and each change makes of how deep trees are.
use Rattle.std.proofs.Common.{◌≡◌, ◌⊎◌, inl, inr, ℕ, zero, suc, ◌+◌, ◌-◌, ◌≤◌, ◌<◌, ◌^◌, List, ◌∷◌, length, length-append, Option, Some, None, refl}
use Rattle.std.proofs.Common.{ap, subst, ◌∙◌, arith}
use Rattle.std.specs.Prelude.{max, min}
use Rattle.std.proofs.lemmas.Option.{slice_get_past}
use Rattle.pfl_containers.specs.declared.order.node.Node.{Node}
use Rattle.pfl_containers.specs.inner.Trees.{Tree, leaf, fork, entries, Holds}
use Rattle.pfl_containers.specs.inner.Balances.{height_of, FitsSides, depth, IsBalanced, HasSides, Links, TurnsRight, TurnsLeft, LeansLeft}
use Rattle.pfl_containers.specs.inner.Balances.{LeansRight, IsJoined, Balances, BalancesLeft, BalancesRight, Grows, Shrinks, Unites, fewest_from}
use Rattle.pfl_containers.specs.inner.Balances.{fewest}

-- The fewest entries.
fewest_from-step : (few next h : ℕ) → fewest_from few next (suc (suc h)) ≡ fewest_from few next (suc h) + fewest_from few next h + 1
fewest_from-step few next zero = omega arith
fewest_from-step few next (suc h) = fewest_from-step next (few + next + 1) h

fewest-rises : (h : ℕ) → fewest h ≤ fewest (suc h)
fewest-rises zero = omega arith
fewest-rises (suc h) = omega (arith, fewest_from-step 0 1 h)

fewest-le : (more h d : ℕ) → h + more ≡ d → fewest h ≤ fewest d
fewest-le zero h d e = let same : h ≡ d = omega (arith, e) in omega (arith, ap fewest same)
fewest-le (suc more) h d e =
    let top : suc (h + more) ≡ d = omega (arith, e) in
    omega (arith, fewest-le more h (h + more) refl, fewest-rises (h + more), ap fewest top)

-- a number is no less than another, or less
no_less : (a b : ℕ) → (b ≤ a) ⊎ (a < b)
no_less zero zero = inl (omega arith)
no_less zero (suc b) = inr (omega arith)
no_less (suc a) zero = inl (omega arith)
no_less (suc a) (suc b) = elim (no_less a b) [ inl h ↦ inl (omega (arith, h)) | inr h ↦ inr (omega (arith, h)) ]

fewest-of_sides : (h a b : ℕ) → a ≡ h → b ≤ a → a ≤ b + 1 → fewest (h + 1) ≤ fewest a + fewest b + 1
fewest-of_sides zero a b e le near = omega arith
fewest-of_sides (suc h) a b e le near =
    let top : suc h + 1 ≡ suc (suc h) = omega arith in
    omega (arith, ap fewest top, fewest_from-step 0 1 h, ap fewest e, fewest-le (b - h) h b (omega (arith, e, le, near)))

module _ {K V : Type 0} where
  -- a balanced tree has no fewer,
  pub fewest-entries : (t : Tree K V) → IsBalanced t → fewest (depth t) ≤ length (entries t)
  fewest-entries leaf b = omega arith
  fewest-entries (fork l i n r) b =
      let all = length-append (entries l) ((n.key, n.value) ∷ entries r) in
      let left = fewest-entries l b.3 in
      let right = fewest-entries r b.4 in
      elim (no_less (depth l) (depth r)) [
        | inl le ↦
            let top : max (depth l) (depth r) + 1 ≡ depth l + 1 = omega (arith, le) in
            omega (arith, all, left, right, ap fewest top, fewest-of_sides (depth l) (depth l) (depth r) refl le b.1)
        | inr le ↦
            let top : max (depth l) (depth r) + 1 ≡ depth r + 1 = omega (arith, le) in
            omega (arith, all, left, right, ap fewest top, fewest-of_sides (depth r) (depth r) (depth l) refl (omega (arith, le)) b.2)
      ]

  -- and is less deep than those whose fewest are more,
  pub shallow : (t : Tree K V) → IsBalanced t → (d : ℕ) → length (entries t) < fewest d → depth t < d
  shallow t b d few = elim (no_less (depth t) d) [
    | inl le ↦ absurd (omega (arith, few, fewest-entries t b, fewest-le (depth t - d) d (depth t) (omega (arith, le))))
    | inr less ↦ less
  ]

  -- so that a byte has room for its height, and for those of the trees that are made of it
  pub low : (t : Tree K V) → IsBalanced t → length (entries t) < 2 ^ 32 → depth t < 46
  low t b few = shallow t b 46 (omega (arith, few))

  -- the height at its root is its depth
  pub height-is : (nodes : List (Node K V)) (t : Tree K V) (link : ℕ) → Holds nodes t link → IsBalanced t → height_of nodes link ≡ depth t
  height-is nodes leaf link h b = let past : length nodes ≤ link = omega (arith, h.0, h.1)
      in ap (λ (o : Option (Node K V)). elim o [ None ↦ 0 | Some n ↦ n.height ]) (slice_get_past nodes link past)
  height-is nodes (fork l i n r) link h b =
      ap (height_of nodes) h.0 ∙ (ap (λ (o : Option (Node K V)). elim o [ None ↦ 0 | Some n ↦ n.height ]) h.1 ∙ b.0)

  -- a tree with such sides is as deep as they say,
  depth-sides : (d e : ℕ) (t : Tree K V) → HasSides d e t → depth t ≡ max d e + 1
  depth-sides d e leaf has = absurd has
  depth-sides d e (fork l i n r) has = omega (arith, has.1, has.2)

  -- balanced where they are about as deep as each other,
  sides-balanced : (d e : ℕ) (t : Tree K V) → HasSides d e t → d ≤ e + 1 → e ≤ d + 1 → IsBalanced t
  sides-balanced d e leaf has left right = absurd has
  sides-balanced d e (fork l i n r) has left right =
      (omega (arith, has.0, has.1, has.2), omega (arith, has.1, has.2, left), omega (arith, has.1, has.2, right), has.3, has.4)

  -- and those of a balanced tree are
  balanced-sides : (l r : Tree K V) (i : ℕ) (n : Node K V) → IsBalanced (fork l i n r) → HasSides (depth l) (depth r) (fork l i n r)
  balanced-sides l r i n b = (b.0, refl, refl, b.3, b.4)

  sides-as : {c d e f : ℕ} (t : Tree K V) → c ≡ d → e ≡ f → HasSides c e t → HasSides d f t
  sides-as {c} {d} {e} {f} t left right has = subst (λ n. HasSides d n t) right (subst (λ n. HasSides n e t) left has)

  -- The tree of the left tree's node, with the node below it to the right, whose tree is p.
  pub turns_right : (ll : Tree K V) (top : ℕ) (left : Node K V) (lr r p t : Tree K V) → Links lr r p → Links ll p t → TurnsRight (fork ll top left lr) r t
  turns_right ll top left lr r p t first second = record {
    sides = λ d e has right near_left near_right low_left low_right.
        let below = first.sides has.4 right (omega (arith, has.2, low_right)) (omega (arith, low_right)) in
        let whole = sides-balanced (depth lr) (depth r) p below (omega (arith, has.2, near_left)) (omega (arith, has.2, near_right)) in
        let same : depth p ≡ max e (depth r) + 1 = omega (arith, depth-sides (depth lr) (depth r) p below, has.2) in
        sides-as t has.1 same (second.sides has.3 whole (omega (arith, has.1, low_left)) (omega (arith, same, low_right)));
  }

  -- And of the right tree's node, with the node below it to the left.
  pub turns_left : (l rl : Tree K V) (top : ℕ) (right : Node K V) (rr p t : Tree K V) → Links l rl p → Links p rr t → TurnsLeft l (fork rl top right rr) t
  turns_left l rl top right rr p t first second = record {
    sides = λ d e left has near_left near_right low_right low_left.
        let below = first.sides left has.3 (omega (arith, low_left)) (omega (arith, has.1, low_left)) in
        let whole = sides-balanced (depth l) (depth rl) p below (omega (arith, has.1, near_left)) (omega (arith, has.1, near_right)) in
        let same : depth p ≡ max (depth l) d + 1 = omega (arith, depth-sides (depth l) (depth rl) p below, has.1) in
        sides-as t same has.2 (second.sides whole has.4 (omega (arith, same, low_left)) (omega (arith, has.2, low_right)));
  }

  joined-sides : (d e : ℕ) (t : Tree K V) → HasSides d e t → d ≤ e + 1 → e ≤ d + 1 → IsJoined d e t
  joined-sides d e t has left right =
      let deep = depth-sides d e t has in
      record { balanced = sides-balanced d e t has left right; least = omega (arith, deep); most = omega (arith, deep); near = λ h k. deep }

  -- The left tree l is two deeper than r: the deeper side goes to the left, and then the tree turns to the right.
  pub balances_right : (l r p t : Tree K V) → LeansLeft l p → TurnsRight p r t
      → (IsBalanced l → IsBalanced r → depth l < 255 → depth r + 1 < depth l) → Balances l r t
  balances_right l r p t leans turns deeper = record {
    joined = λ left right low_left low_right near_left near_right.
        let far = deeper left right low_left in
        let side = leans.sides left (omega (arith, far)) (omega (arith, low_left)) in
        let d = side.0 in
        let e = side.1 in
        let all = turns.sides d e side.2 right (omega (arith, side.3, side.4, near_left)) (omega (arith, side.3, side.5, far))
        (omega (arith, side.3, low_left)) (omega (arith, side.3, side.4, low_left, far)) in
        let whole = joined-sides d (max e (depth r) + 1) t all (omega (arith, side.3, near_left)) (omega (arith, side.3, side.4, far, near_left)) in
        record {
          balanced = whole.balanced;
          least = omega (arith, depth-sides d (max e (depth r) + 1) t all, side.3, side.4, far, near_left);
          most = omega (arith, depth-sides d (max e (depth r) + 1) t all, side.3, side.4, far, near_left);
          near = λ h k. absurd (omega (arith, h, far));
        };
  }

  pub balances_left : (l r p t : Tree K V) → LeansRight r p → TurnsLeft l p t
      → (IsBalanced l → IsBalanced r → depth r < 255 → depth l + 1 < depth r) → Balances l r t
  balances_left l r p t leans turns deeper = record {
    joined = λ left right low_left low_right near_left near_right.
        let far = deeper left right low_right in
        let side = leans.sides right (omega (arith, far)) (omega (arith, low_right)) in
        let d = side.0 in
        let e = side.1 in
        let all = turns.sides d e left side.2 (omega (arith, side.3, side.5, far)) (omega (arith, side.3, side.4, near_right))
        (omega (arith, side.3, low_right)) (omega (arith, side.3, side.4, low_right, far)) in
        let whole = joined-sides (max (depth l) d + 1) e t all (omega (arith, side.3, side.4, far, near_right)) (omega (arith, side.3, near_right)) in
        record {
          balanced = whole.balanced;
          least = omega (arith, depth-sides (max (depth l) d + 1) e t all, side.3, side.4, far, near_right);
          most = omega (arith, depth-sides (max (depth l) d + 1) e t all, side.3, side.4, far, near_right);
          near = λ h k. absurd (omega (arith, k, far));
        };
  }

  -- neither is
  pub balances_linked : (l r t : Tree K V) → Links l r t → (IsBalanced l → IsBalanced r → (depth l ≤ depth r + 1) × (depth r ≤ depth l + 1)) → Balances l r t
  balances_linked l r t links near = record {
    joined = λ left right low_left low_right _ _. joined-sides (depth l) (depth r) t (links.sides left right low_left low_right)
        (near left right).0 (near left right).1;
  }

  -- A node whose new left tree is as deep as the one before stays as it is, and so does one whose right tree is.
  pub stays_joined : (l r : Tree K V) (i : ℕ) (n : Node K V) → IsBalanced l → IsBalanced r → FitsSides n.height (depth l) (depth r)
      → IsJoined (depth l) (depth r) (fork l i n r)
  stays_joined l r i n left right fits = record {
    balanced = (fits.0, fits.1, fits.2, left, right);
    least = omega arith;
    most = omega arith;
    near = λ _ _. refl;
  }

  pub balances_as_left : (was height : ℕ) (l r t : Tree K V) → Balances l r t → BalancesLeft was height l r t
  balances_as_left was height l r t b =
      record { joined = λ left right low_left low_right near_left near_right _. b.joined left right low_left low_right near_left near_right }

  pub balances_as_right : (was height : ℕ) (l r t : Tree K V) → Balances l r t → BalancesRight was height l r t
  balances_as_right was height l r t b =
      record { joined = λ left right low_left low_right near_left near_right _. b.joined left right low_left low_right near_left near_right }

  -- Of a tree whose left side is no less deep than its right one nothing changes, and another one turns.
  pub leans_left-leaf : LeansLeft {K = K} {V = V} leaf leaf
  leans_left-leaf = record { sides = λ _ some _. absurd (omega (arith, some)) }

  pub leans_left-still : (l r : Tree K V) (i : ℕ) (n : Node K V) → (IsBalanced l → IsBalanced r → depth r ≤ depth l) → LeansLeft (fork l i n r) (fork l i n r)
  leans_left-still l r i n still = record {
    sides = λ b _ _.
        let le = still b.3 b.4 in
        (depth l, depth r, balanced-sides l r i n b, omega (arith, le), le, omega (arith, b.1));
  }

  pub leans_left-turned : (l r : Tree K V) (i : ℕ) (n : Node K V) (u : Tree K V) → (IsBalanced l → IsBalanced r → depth l < depth r)
      → TurnsLeft l r u → LeansLeft (fork l i n r) u
  leans_left-turned l leaf i n u lower turns = record { sides = λ b _ _. absurd (omega (arith, lower b.3 b.4)) }
  leans_left-turned l (fork rl j m rr) i n u lower turns = record {
    sides = λ b _ few.
        let less = lower b.3 b.4 in
        let own = b.4 in
        let all = turns.sides (depth rl) (depth rr) b.3 (balanced-sides rl rr j m own) (omega (arith, less, b.2, own.1, own.2))
        (omega (arith, less, b.2, own.1, own.2)) (omega (arith, few)) (omega (arith, few, less)) in (
          max (depth l) (depth rl) + 1,
          depth rr,
          all,
          omega (arith, less, b.2, own.1, own.2),
          omega (arith, less, b.2, own.1, own.2),
          omega
              (arith, less, b.2, own.1, own.2),
        );
  }

  -- And likewise on the right.
  pub leans_right-leaf : LeansRight {K = K} {V = V} leaf leaf
  leans_right-leaf = record { sides = λ _ some _. absurd (omega (arith, some)) }

  pub leans_right-still : (l r : Tree K V) (i : ℕ) (n : Node K V) → (IsBalanced l → IsBalanced r → depth l ≤ depth r) → LeansRight (fork l i n r) (fork l i n r)
  leans_right-still l r i n still = record {
    sides = λ b _ _.
        let le = still b.3 b.4 in
        (depth l, depth r, balanced-sides l r i n b, omega (arith, le), le, omega (arith, b.2));
  }

  pub leans_right-turned : (l r : Tree K V) (i : ℕ) (n : Node K V) (u : Tree K V) → (IsBalanced l → IsBalanced r → depth r < depth l)
      → TurnsRight l r u → LeansRight (fork l i n r) u
  leans_right-turned leaf r i n u lower turns = record { sides = λ b _ _. absurd (omega (arith, lower b.3 b.4)) }
  leans_right-turned (fork ll j m lr) r i n u lower turns = record {
    sides = λ b _ few.
        let less = lower b.3 b.4 in
        let own = b.3 in
        let all = turns.sides (depth ll) (depth lr) (balanced-sides ll lr j m own) b.4 (omega (arith, less, b.1, own.1, own.2))
        (omega (arith, less, b.1, own.1, own.2)) (omega (arith, few)) (omega (arith, few, less)) in (
          depth ll,
          max (depth lr) (depth r) + 1,
          all,
          omega (arith, less, b.1, own.1, own.2),
          omega (arith, less, b.1, own.1, own.2),
          omega
              (arith, less, b.1, own.1, own.2),
        );
  }

  -- A leaf becomes a tree of one node,
  pub grows_leaf : (t : Tree K V) → Links leaf leaf t → Grows leaf t
  grows_leaf t links = record {
    grown = λ few b.
        let all = links.sides tt tt (omega arith) (omega arith) in
        (sides-balanced 0 0 t all (omega arith) (omega arith), omega (arith, depth-sides 0 0 t all), omega (arith, depth-sides 0 0 t all));
  }

  -- a tree grows on its left side,
  pub grows_left : (l r : Tree K V) (i : ℕ) (n : Node K V) (p t : Tree K V) (was : ℕ) → (IsBalanced l → was ≡ depth l) → Grows l p
      → BalancesLeft was n.height p r t → Grows (fork l i n r) t
  grows_left l r i n p t was deep_before grows balances = record {
    grown = λ few b.
        let fewer : length (entries l) < 2 ^ 32 = omega (arith, few, length-append (entries l) ((n.key, n.value) ∷ entries r)) in
        let below = grows.grown fewer b.3 in
        let deep = low (fork l i n r) b few in
        let all = balances.joined below.0 b.4 (omega (arith, deep, below.2)) (omega (arith, deep)) (omega (arith, b.1, below.2))
        (omega (arith, b.2, below.1))
        (omega (arith, b.0, deep_before b.3), omega (arith, b.1, deep_before b.3), omega (arith, b.2, deep_before b.3)) in
        (all.balanced, grind (arith, all.least, all.near, b.1, b.2, below.1, below.2), grind (arith, all.most, all.near, b.1, b.2, below.1, below.2));
  }

  pub grows_right : (l r : Tree K V) (i : ℕ) (n : Node K V) (p t : Tree K V) (was : ℕ) → (IsBalanced r → was ≡ depth r) → Grows r p
      → BalancesRight was n.height l p t → Grows (fork l i n r) t
  grows_right l r i n p t was deep_before grows balances = record {
    grown = λ few b.
        let fewer : length (entries r) < 2 ^ 32 = omega (arith, few, length-append (entries l) ((n.key, n.value) ∷ entries r)) in
        let below = grows.grown fewer b.4 in
        let deep = low (fork l i n r) b few in
        let all = balances.joined b.3 below.0 (omega (arith, deep)) (omega (arith, deep, below.2)) (omega (arith, b.1, below.1))
        (omega (arith, b.2, below.2))
        (omega (arith, b.0, deep_before b.4), omega (arith, b.1, deep_before b.4), omega (arith, b.2, deep_before b.4)) in
        (all.balanced, grind (arith, all.least, all.near, b.1, b.2, below.1, below.2), grind (arith, all.most, all.near, b.1, b.2, below.1, below.2));
  }

  -- and shrinks on either,
  pub shrinks_left : (l r : Tree K V) (i : ℕ) (n : Node K V) (p t : Tree K V) (was : ℕ) → (IsBalanced l → was ≡ depth l) → Shrinks l p
      → BalancesLeft was n.height p r t → Shrinks (fork l i n r) t
  shrinks_left l r i n p t was deep_before shrinks balances = record {
    shrunk = λ few b.
        let fewer : length (entries l) < 2 ^ 32 = omega (arith, few, length-append (entries l) ((n.key, n.value) ∷ entries r)) in
        let below = shrinks.shrunk fewer b.3 in
        let deep = low (fork l i n r) b few in
        let all = balances.joined below.0 b.4 (omega (arith, deep, below.1)) (omega (arith, deep)) (omega (arith, b.1, below.1))
        (omega (arith, b.2, below.2))
        (omega (arith, b.0, deep_before b.3), omega (arith, b.1, deep_before b.3), omega (arith, b.2, deep_before b.3)) in
        (all.balanced, grind (arith, all.most, all.near, b.1, b.2, below.1, below.2), grind (arith, all.least, all.near, b.1, b.2, below.1, below.2));
  }

  pub shrinks_right : (l r : Tree K V) (i : ℕ) (n : Node K V) (p t : Tree K V) (was : ℕ) → (IsBalanced r → was ≡ depth r) → Shrinks r p
      → BalancesRight was n.height l p t → Shrinks (fork l i n r) t
  shrinks_right l r i n p t was deep_before shrinks balances = record {
    shrunk = λ few b.
        let fewer : length (entries r) < 2 ^ 32 = omega (arith, few, length-append (entries l) ((n.key, n.value) ∷ entries r)) in
        let below = shrinks.shrunk fewer b.4 in
        let deep = low (fork l i n r) b few in
        let all = balances.joined b.3 below.0 (omega (arith, deep)) (omega (arith, deep, below.1)) (omega (arith, b.1, below.2))
        (omega (arith, b.2, below.1))
        (omega (arith, b.0, deep_before b.4), omega (arith, b.1, deep_before b.4), omega (arith, b.2, deep_before b.4)) in
        (all.balanced, grind (arith, all.most, all.near, b.1, b.2, below.1, below.2), grind (arith, all.least, all.near, b.1, b.2, below.1, below.2));
  }

  pub shrinks_leaf : Shrinks {K = K} {V = V} leaf leaf
  shrinks_leaf = record { shrunk = λ few b. (b, omega arith, omega arith) }

  -- where its first node was all that was on the left,
  pub shrinks_first : (r : Tree K V) (i : ℕ) (n : Node K V) → Shrinks (fork leaf i n r) r
  shrinks_first r i n = record { shrunk = λ few b. (b.4, omega arith, omega arith) }

  -- and at its own node.
  pub shrinks_here : (l r : Tree K V) (i : ℕ) (n : Node K V) (u : Tree K V) → Unites l r u → Shrinks (fork l i n r) u
  shrinks_here l r i n u unites = record {
    shrunk = λ few b.
        let all = length-append (entries l) ((n.key, n.value) ∷ entries r) in
        let one = unites.united (omega (arith, few, all)) (omega (arith, few, all)) b.3 b.4 b.1 b.2 in
        (one.0, omega (arith, one.2), omega (arith, one.1));
  }

  -- Two sides become a tree under the first node of the right one.
  pub unites_below : (l r p u : Tree K V) → Shrinks r p → Balances l p u → Unites l r u
  unites_below l r p u shrinks balances = record {
    united = λ few_left few_right left right near_left near_right.
        let below = shrinks.shrunk few_right right in
        let all = balances.joined left below.0 (omega (arith, low l left few_left)) (omega (arith, low r right few_right, below.1))
        (omega (arith, near_left, below.2)) (omega (arith, near_right, below.1)) in (
          all.balanced,
          grind (arith, all.least, all.near, near_left, near_right, below.1, below.2),
          grind
              (arith, all.most, all.near, near_left, near_right, below.1, below.2),
        );
  }

  -- What `linked` writes.
  pub links_linked : (nodes : List (Node K V)) (l r : Tree K V) (place : ℕ) (node : Node K V) (left right height : ℕ)
      → Holds nodes l node.left → Holds nodes r node.right
      → left ≡ height_of nodes node.left → right ≡ height_of nodes node.right → height ≡ min (max left right + 1) 255
      → Links l r (fork l place (record node { height = height }) r)
  links_linked nodes l r place node left right height holds_left holds_right is_left is_right is = record {
    sides = λ b c low_left low_right.
        let same_left = is_left ∙ height-is nodes l node.left holds_left b in
        let same_right = is_right ∙ height-is nodes r node.right holds_right c in
        (omega (arith, is, same_left, same_right, low_left, low_right), refl, refl, b, c);
  }
