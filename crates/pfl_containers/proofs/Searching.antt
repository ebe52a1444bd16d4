-- What each step of a search says.
use Rattle.std.proofs.Common.{◌≡◌, ◌≤◌, ◌<◌, ◌-◌, ℕ, true, false, T, List, ◌∷◌, ◌++◌, length, length-append, Option, Some, None, refl, sym, ap, subst}
use Rattle.std.proofs.Common.{◌∙◌, arith}
use Rattle.std.specs.Prelude.{slice_get, find as first_with}
use Rattle.std.specs.Option.{option_map, option_or}
use Rattle.std.specs.declared.cmp.Ordering.{Ordering}
use Rattle.std.specs.declared.cmp.Ordering.TheVariants.{Less, Equal, Greater}
use Rattle.std.specs.Ordering.{is_lt}
use Rattle.std.specs.Cmp.{IsTotalOrder}
use Rattle.std.specs.FinMap.Entries.{find, by_order, is_sorted}
use Rattle.pfl_containers.specs.declared.order.node.Node.{Node}
use Rattle.pfl_containers.specs.inner.Trees.{Tree, leaf, fork, entries, Holds}
use Rattle.pfl_containers.specs.inner.Searches.{under, Finds, IsFirst, IsLast, IsNext}
use Rattle.pfl_containers.proofs.Standing.{Stands, stands, stands_not}
use Rattle.pfl_containers.proofs.Sorted.{Sides, sides, find-less, find-equal, find-greater, first_with-front, first-front, first-behind, last-behind}
use Rattle.pfl_containers.proofs.Sorted.{last-here, next-behind, next-here}

-- at the start of a search nothing was found on its way
pub at_start : {A : Type 0} (P : Option A → Type 0) (found : Option A) → P found → P (option_or found None)
at_start P None h = h
at_start P (Some x) h = h

module _ {K V : Type 0} where
  -- the trees below a node have fewer entries
  pub record IsDeep (nodes : List (Node K V)) (t : Tree K V) (place : ℕ) (node : Node K V) (s : Stands nodes t place node) (steps : ℕ) : Type 0 where
    pub left : length (entries s.l) ≤ steps - 1
    pub right : length (entries s.r) ≤ steps - 1
    pub some : 0 < steps

  pub deep : (nodes : List (Node K V)) (t : Tree K V) (place : ℕ) (node : Node K V) (s : Stands nodes t place node) (steps : ℕ)
      → length (entries t) ≤ steps → IsDeep nodes t place node s steps
  deep nodes t place node s steps h =
      let e = ap (λ (u : Tree K V). length (entries u)) s.is ∙ length-append (entries s.l) ((node.key, node.value) ∷ entries s.r) in
      record { left = omega (arith, e, h); right = omega (arith, e, h); some = omega (arith, e, h) }

  -- a search with no steps left goes down no node
  pub no_steps : (nodes : List (Node K V)) (t : Tree K V) (link : ℕ) (node : Node K V) (steps : ℕ) → Holds nodes t link
      → Some node ≡ slice_get nodes link → length (entries t) ≤ steps → steps ≡ 0 → ⊥
  no_steps nodes t link node steps h at d zero = let s = deep nodes t link node (stands nodes t link h node at) steps d in omega (arith, s.some, zero)

  -- a map of a list in order finds what the search does
  pub find-under : {R : K → K → Ordering} → IsTotalOrder R → (t : Tree K V) (q : K) → T (is_sorted R (entries t))
      → find R q (entries t) ≡ option_map (λ p. p.1.value) (under R t q)
  find-under o leaf q h = refl
  find-under {R} o (fork l i n r) q h =
      let s = sides R (entries l) (n.key, n.value) (entries r) h in
      elim (R q n.key) as (λ c. R q n.key ≡ c
      → find R q (entries l ++ (n.key, n.value) ∷ entries r)
      ≡ option_map (λ p. p.1.value) (by_order c (under R l q) (Some (i, n)) (under R r q))) [
        | Less ↦ λ is. find-less o q (entries l) (n.key, n.value) (entries r) s is ∙ find-under o l q s.left
        | Equal ↦ λ is. find-equal o q (entries l) (n.key, n.value) (entries r) s is
        | Greater ↦ λ is. find-greater o q (entries l) (n.key, n.value) (entries r) s is ∙ find-under o r q s.right
      ] refl

  -- at the place that a search finds stands the node that it found
  pub stands-under : (R : K → K → Ordering) (nodes : List (Node K V)) (t : Tree K V) (link : ℕ) → Holds nodes t link → (q : K) (place : ℕ)
      → Some place ≡ option_map (λ p. p.0) (under R t q) → option_map {U = ℕ × Node K V} (λ n. (place, n)) (slice_get nodes place) ≡ under R t q
  stands-under R nodes leaf link h q place is = absurd (cc)
  stands-under R nodes (fork l i n r) link h q place is =
      elim (R q n.key) as (λ c. Some place ≡ option_map (λ p. p.0) (by_order c (under R l q) (Some (i, n)) (under R r q))
      → option_map {U = ℕ × Node K V} (λ n. (place, n)) (slice_get nodes place) ≡ by_order c (under R l q) (Some (i, n)) (under R r q)) [
        | Less ↦ stands-under R nodes l n.left h.2 q place
        | Equal ↦ λ here. let same : i ≡ place =
            cc in subst (λ (p : ℕ). option_map {U = ℕ × Node K V} (λ n. (p, n)) (slice_get nodes p) ≡ Some (i, n)) same
            (ap (option_map (λ n. (i, n))) h.1)
        | Greater ↦ stands-under R nodes r n.right h.3 q place
      ] is

  -- a tree that is searched with no steps has no entries
  spent : (P : Tree K V → Type 0) → P leaf → (t : Tree K V) (steps : ℕ) → steps ≤ 0 → length (entries t) ≤ steps → P t
  spent P p leaf steps none d = p
  spent P p (fork l i n r) steps none d = absurd (omega (arith, none, d, length-append (entries l) ((n.key, n.value) ∷ entries r)))

  module _ (nodes : List (Node K V)) (link : ℕ) (steps : ℕ) where
    -- there are no steps left
    module _ (none : steps ≤ 0) where
      pub finds_none : (R : K → K → Ordering) (q : K) → Finds R nodes link q steps None
      finds_none R q = record { is = λ t h d. spent (λ t. None ≡ option_map (λ p. p.0) (under R t q)) refl t steps none d }

      pub first_none : IsFirst nodes link steps None
      first_none = record { is = λ t h d. spent (λ t. None ≡ slice_get (entries t) 0) refl t steps none d }

      pub last_none : IsLast nodes link steps None
      last_none = record { is = λ t h d. spent (λ t. None ≡ slice_get (entries t) (length (entries t) - 1)) refl t steps none d }

      pub next_none : (R : K → K → Ordering) (q : K) → IsNext R nodes link q steps None
      next_none R q = record { is = λ t h d z. spent (λ t. None ≡ first_with (λ e. is_lt (R q e.0)) (entries t)) refl t steps none d }

    -- there is no node here
    module _ (at : None ≡ slice_get nodes link) where
      pub finds_nothing : (R : K → K → Ordering) (q : K) → Finds R nodes link q steps None
      finds_nothing R q = record { is = λ t h d. ap (λ (u : Tree K V). option_map (λ p. p.0) (under R u q)) (sym (stands_not nodes t link h at)) }

      pub no_first : IsFirst nodes link steps None
      no_first = record { is = λ t h d. ap (λ (u : Tree K V). slice_get (entries u) 0) (sym (stands_not nodes t link h at)) }

      pub no_last : IsLast nodes link steps None
      no_last = record { is = λ t h d. ap (λ (u : Tree K V). slice_get (entries u) (length (entries u) - 1)) (sym (stands_not nodes t link h at)) }

      pub no_next : (R : K → K → Ordering) (q : K) → IsNext R nodes link q steps None
      no_next R q = record { is = λ t h d z. ap (λ (u : Tree K V). first_with (λ e. is_lt (R q e.0)) (entries u)) (sym (stands_not nodes t link h at)) }

    -- here is this node
    module _ (node : Node K V) (at : Some node ≡ slice_get nodes link) where
      -- what is known at a node holds of the tree
      here : (P : Tree K V → Type 0)
          → ((s : (t : Tree K V) × Stands nodes t link node) → IsDeep nodes s.0 link node s.1 steps → P (fork s.1.l link node s.1.r))
          → (t : Tree K V) → Holds nodes t link → length (entries t) ≤ steps → P t
      here P f t h d = let s = stands nodes t link h node at in subst P (sym s.is) (f (t, s) (deep nodes t link node s steps d))

      module _ (R : K → K → Ordering) (q : K) where
        by : (c : Ordering) → c ≡ R q node.key → (l r : Tree K V)
            → option_map (λ p. p.0) (by_order c (under R l q) (Some (link, node)) (under R r q))
            ≡ option_map (λ p. p.0) (under R (fork l link node r) q)
        by c is l r = ap (λ c. option_map (λ p. p.0) (by_order c (under R l q) (Some (link, node)) (under R r q))) is

        pub finds_left : {found : Option ℕ} → Less ≡ R q node.key → Finds R nodes node.left q (steps - 1) found → Finds R nodes link q steps found
        finds_left {found} is below =
            record { is = here (λ t. found ≡ option_map (λ p. p.0) (under R t q)) (λ s d. below.is s.1.l s.1.left d.left ∙ by Less is s.1.l s.1.r) }

        pub finds_here : Equal ≡ R q node.key → Finds R nodes link q steps (Some link)
        finds_here is = record { is = here (λ t. Some link ≡ option_map (λ p. p.0) (under R t q)) (λ s d. by Equal is s.1.l s.1.r) }

        pub finds_right : {found : Option ℕ} → Greater ≡ R q node.key → Finds R nodes node.right q (steps - 1) found → Finds R nodes link q steps found
        finds_right {found} is below =
            record {
              is = here (λ t. found ≡ option_map (λ p. p.0) (under R t q)) (λ s d. below.is s.1.r s.1.right d.right
                  ∙ by Greater is s.1.l s.1.r);
            }

      first_left : (e : K × V) → IsFirst nodes node.left (steps - 1) (Some e) → IsFirst nodes link steps (Some e)
      first_left e below = record {
        is = here (λ t. Some e ≡ slice_get (entries t) 0)
            (λ s d. first-front (entries s.1.l) ((node.key, node.value) ∷ entries s.1.r) e (below.is s.1.l s.1.left d.left));
      }

      first_here : IsFirst nodes node.left (steps - 1) None → IsFirst nodes link steps (Some (node.key, node.value))
      first_here below = record {
        is = here (λ t. Some (node.key, node.value) ≡ slice_get (entries t) 0)
            (λ s d. first-behind (entries s.1.l) ((node.key, node.value) ∷ entries s.1.r) (below.is s.1.l s.1.left d.left));
      }

      pub first_step : {root all : ℕ} {before : Option (K × V)}
          → ((found : Option (K × V)) → IsFirst nodes link steps found → IsFirst nodes root all (option_or found before))
          → (found : Option (K × V)) → IsFirst nodes node.left (steps - 1) found → IsFirst nodes root all (option_or found (Some (node.key, node.value)))
      first_step go None below = go (Some (node.key, node.value)) (first_here below)
      first_step go (Some e) below = go (Some e) (first_left e below)

      last_right : (e : K × V) → IsLast nodes node.right (steps - 1) (Some e) → IsLast nodes link steps (Some e)
      last_right e below = record {
        is = here (λ t. Some e ≡ slice_get (entries t) (length (entries t) - 1))
            (λ s d. last-behind (entries s.1.l) (node.key, node.value) (entries s.1.r) e (below.is s.1.r s.1.right d.right));
      }

      last_here : IsLast nodes node.right (steps - 1) None → IsLast nodes link steps (Some (node.key, node.value))
      last_here below = record {
        is = here (λ t. Some (node.key, node.value) ≡ slice_get (entries t) (length (entries t) - 1))
            (λ s d. last-here (entries s.1.l) (node.key, node.value) (entries s.1.r) (below.is s.1.r s.1.right d.right));
      }

      pub last_step : {root all : ℕ} {before : Option (K × V)}
          → ((found : Option (K × V)) → IsLast nodes link steps found → IsLast nodes root all (option_or found before))
          → (found : Option (K × V)) → IsLast nodes node.right (steps - 1) found → IsLast nodes root all (option_or found (Some (node.key, node.value)))
      last_step go None below = go (Some (node.key, node.value)) (last_here below)
      last_step go (Some e) below = go (Some e) (last_right e below)

      module _ {R : K → K → Ordering} (o : IsTotalOrder R) (q : K) where
        -- the search goes on below the node
        nexts : {found : Option (K × V)}
            → ((t : Tree K V) (s : Stands nodes t link node) → IsDeep nodes t link node s steps
            → Sides R (entries s.l) (node.key, node.value) (entries s.r)
            → found ≡ first_with (λ e. is_lt (R q e.0)) (entries s.l ++ (node.key, node.value) ∷ entries s.r)) → IsNext R nodes link q steps found
        nexts {found} f = record {
          is = here (λ t. T (is_sorted R (entries t)) → found ≡ first_with (λ e. is_lt (R q e.0)) (entries t))
              (λ s d sorted. f s.0 s.1 d (sides R (entries s.1.l) (node.key, node.value) (entries s.1.r) sorted));
        }

        pub next_right : {found : Option (K × V)} → (c : Ordering) → c ≡ R q node.key → is_lt c ≡ false
            → IsNext R nodes node.right q (steps - 1) found → IsNext R nodes link q steps found
        next_right c is isnt below =
            nexts (λ t s d z. below.is s.r s.right d.right z.right
            ∙ next-behind o q (entries s.l) (node.key, node.value) (entries s.r) z (sym (ap is_lt is) ∙ isnt))

        next_left : (e : K × V) → IsNext R nodes node.left q (steps - 1) (Some e) → IsNext R nodes link q steps (Some e)
        next_left e below = nexts (λ t s d z. first_with-front _ (entries s.l) ((node.key, node.value) ∷ entries s.r) e (below.is s.l s.left d.left z.left))

        next_here : (c : Ordering) → c ≡ R q node.key → is_lt c ≡ true → IsNext R nodes node.left q (steps - 1) None
            → IsNext R nodes link q steps (Some (node.key, node.value))
        next_here c is less below =
            nexts (λ t s d z. next-here o q (entries s.l) (node.key, node.value) (entries s.r) z (sym (ap is_lt is) ∙ less)
            (below.is s.l s.left d.left z.left))

        pub next_step : {root all : ℕ} {before : Option (K × V)} (c : Ordering) → c ≡ R q node.key → is_lt c ≡ true
            → ((found : Option (K × V)) → IsNext R nodes link q steps found → IsNext R nodes root q all (option_or found before))
            → (found : Option (K × V)) → IsNext R nodes node.left q (steps - 1) found
            → IsNext R nodes root q all (option_or found (Some (node.key, node.value)))
        next_step c is less go None below = go (Some (node.key, node.value)) (next_here c is less below)
        next_step c is less go (Some e) below = go (Some e) (next_left e below)
