-- Paths of nodes: what a node taken out or put in makes of them.
use Rattle.std.proofs.Common.{◌≡◌, ◌≢◌, ℕ, zero, suc, ◌<◌, ◌≤◌, List, [], ◌∷◌, ◌++◌, length, slice_get, None, refl, sym, ◌∙◌, ap, subst, arith}
use Rattle.std.proofs.lemmas.Option.{slice_get_within}
use Rattle.pfl_containers.specs.Lists.{Link, link, last_from, Lacks, Distinct}
use Rattle.pfl_containers.specs.inner.Rings.{Nodes, next_of, Path, Holds, walk, walked, previous_of, ring_of, Unlinks, Inserts}
use Rattle.pfl_containers.proofs.Links.{last-Lacks, Lacks-front}

module _ {V : Type 0} where
  -- where a path ends
  pub path-last : (nodes : Nodes) (r s : ℕ) (l : List (Link V)) (e : ℕ) → Path nodes r s l e → (next_of nodes (last_from s l) ≡ e)
      × (previous_of nodes e ≡ last_from s l)
  path-last nodes r s [] e p = p
  path-last nodes r s (x ∷ l) e p = path-last nodes r x.slot l e p.3

  -- a path up to one of its links
  pub path-front : (nodes : Nodes) (r s : ℕ) (f : List (Link V)) (x : Link V) (b : List (Link V)) (e : ℕ) → Path nodes r s (f ++ x ∷ b) e
      → Path nodes r s f x.slot
  path-front nodes r s [] x b e p = (p.0, p.1)
  path-front nodes r s (y ∷ f) x b e p = (p.0, p.1, p.2, path-front nodes r y.slot f x b e p.3)

  -- and from it on
  pub path-back : (nodes : Nodes) (r s : ℕ) (f : List (Link V)) (x : Link V) (b : List (Link V)) (e : ℕ) → Path nodes r s (f ++ x ∷ b) e
      → (ring_of nodes x.slot ≡ r) × Path nodes r x.slot b e
  path-back nodes r s [] x b e p = (p.2, p.3)
  path-back nodes r s (y ∷ f) x b e p = path-back nodes r y.slot f x b e p.3

  -- the node after the start leads back to it
  pub path-first : (nodes : Nodes) (r s : ℕ) (l : List (Link V)) (e : ℕ) → Path nodes r s l e → previous_of nodes (next_of nodes s) ≡ s
  path-first nodes r s [] e p = ap (previous_of nodes) p.0 ∙ p.1
  path-first nodes r s (x ∷ l) e p = ap (previous_of nodes) p.0 ∙ p.1

  -- a path from the last of its first links on
  pub path-rest : (nodes : Nodes) (r s : ℕ) (f b : List (Link V)) (e : ℕ) → Path nodes r s (f ++ b) e → Path nodes r (last_from s f) b e
  path-rest nodes r s [] b e p = p
  path-rest nodes r s (x ∷ f) b e p = path-rest nodes r x.slot f b e p.3

  -- the last of its first links is of the ring, and has a value
  pub path-known : (nodes : Nodes) (values : List V) (r s : ℕ) (f b : List (Link V)) (e : ℕ) → Path nodes r s (f ++ b) e → Holds values (f ++ b)
      → (ring_of nodes s ≡ r) × (s < length values) → (ring_of nodes (last_from s f) ≡ r) × (last_from s f < length values)
  path-known nodes values r s [] b e p h known = known
  path-known nodes values r s (x ∷ f) b e p h known = path-known nodes values r x.slot f b e p.3 h.1 (p.2, slice_get_within values x.slot x.value h.0)

  -- the links of another ring lack a node
  pub path-Lacks : (nodes : Nodes) (r s : ℕ) (l : List (Link V)) (e x : ℕ) → Path nodes r s l e → ring_of nodes x ≢ r → Lacks x l
  path-Lacks nodes r s [] e x p a = tt
  path-Lacks nodes r s (y ∷ l) e x p a = let other : y.slot ≢ x = λ same. a (ap (ring_of nodes) (sym same) ∙ p.2)
      in (other, path-Lacks nodes r y.slot l e x p.3 a)

  -- a walk along a path finds its links
  pub walk-path : (nodes : Nodes) (values : List V) (r s : ℕ) (l : List (Link V)) (e n : ℕ) → Path nodes r s l e → Holds values l
      → length l ≤ n → slice_get values e ≡ None → walk nodes values n (next_of nodes s) ≡ l
  walk-path nodes values r s [] e zero p h few out = refl
  walk-path nodes values r s [] e (suc n) p h few out = ap (λ i. walked i (slice_get values i) (walk nodes values n (next_of nodes i))) p.0
      ∙ ap (λ o. walked e o (walk nodes values n (next_of nodes e))) out
  walk-path nodes values r s (x ∷ l) e zero p h few out = absurd (omega arith)
  walk-path nodes values r s (x ∷ l) e (suc n) p h few out =
      ap (λ i. walked i (slice_get values i) (walk nodes values n (next_of nodes i))) p.0
      ∙ (ap (λ o. walked x.slot o (walk nodes values n (next_of nodes x.slot))) h.0
      ∙ ap (λ (rest : List (Link V)). x ∷ rest) (walk-path nodes values r x.slot l e n p.3 h.1 (omega arith) out))

  -- a path stays where one node that it does not have is another
  pub path-kept : (old new : Nodes) (x : ℕ) → ((i : ℕ) → i ≢ x → new i ≡ old i) → (r s : ℕ) (l : List (Link V)) (e : ℕ) → Path old r s l e
      → Lacks x l → s ≢ x → e ≢ x → Path new r s l e
  path-kept old new x same r s [] e p a ns ne = (ap (λ n. n.next) (same s ns) ∙ p.0, ap (λ n. n.previous) (same e ne) ∙ p.1)
  path-kept old new x same r s (y ∷ l) e p a ns ne = (
    ap (λ n. n.next) (same s ns) ∙ p.0,
    ap (λ n. n.previous) (same y.slot a.0) ∙ p.1,
    ap (λ n. n.ring) (same y.slot a.0) ∙ p.2,
    path-kept old new x same r y.slot l e p.3 a.1 a.0 ne,
  )

-- The node x is taken out. Its neighbours lead to it.
module _ (old new : Nodes) (x : ℕ) (u : Unlinks old new x)
    (there : next_of old (previous_of old x) ≡ x) (back : previous_of old (next_of old x) ≡ x) where
  -- a step that does not touch x
  unlink-step : (a b : ℕ) → next_of old a ≡ b → previous_of old b ≡ a → a ≢ x → b ≢ x → (next_of new a ≡ b) × (previous_of new b ≡ a)
  unlink-step a b n p na nb =
      let far : a ≢ previous_of old x = λ e. nb (sym n ∙ (ap (next_of old) e ∙ there)) in
      let far_b : b ≢ next_of old x = λ e. na (sym p ∙ (ap (previous_of old) e ∙ back)) in
      (u.other_next a far ∙ n, u.other_previous b far_b ∙ p)

  -- a path that does not have x stays
  pub unlink-other : {V : Type 0} (r s : ℕ) (l : List (Link V)) (e : ℕ) → Path old r s l e → Lacks x l → s ≢ x → e ≢ x → Path new r s l e
  unlink-other r s [] e p a ns ne = unlink-step s e p.0 p.1 ns ne
  unlink-other r s (y ∷ l) e p a ns ne =
      let step = unlink-step s y.slot p.0 p.1 ns a.0 in
      (step.0, step.1, u.rings y.slot ∙ p.2, unlink-other r y.slot l e p.3 a.1 a.0 ne)

  -- a step over x
  unlink-over : (a b : ℕ) → previous_of old x ≡ a → next_of old x ≡ b → (next_of new a ≡ b) × (previous_of new b ≡ a)
  unlink-over a b p n = (ap (next_of new) (sym p) ∙ (u.next ∙ n), ap (previous_of new) (sym n) ∙ (u.previous ∙ p))

  -- x's own path loses it
  pub unlink-own : {V : Type 0} (r s : ℕ) (f : List (Link V)) (v : V) (b : List (Link V)) (e : ℕ) → Path old r s (f ++ link x v ∷ b) e
      → Lacks x (f ++ b) → s ≢ x → e ≢ x → Path new r s (f ++ b) e
  unlink-own r s [] v [] e p a ns ne = unlink-over s e p.1 p.3.0
  unlink-own r s [] v (y ∷ b) e p a ns ne =
      let over = unlink-over s y.slot p.1 p.3.0 in
      (over.0, over.1, u.rings y.slot ∙ p.3.2, unlink-other r y.slot b e p.3.3 a.1 a.0 ne)
  unlink-own r s (y ∷ f) v b e p a ns ne =
      let step = unlink-step s y.slot p.0 p.1 ns a.0 in
      (step.0, step.1, u.rings y.slot ∙ p.2, unlink-own r y.slot f v b e p.3 a.1 a.0 ne)

-- The node x is put in after p, where the node after p leads back to it.
module _ (old new : Nodes) (ring x p : ℕ) (i : Inserts old new ring x p)
    (back : previous_of old (next_of old p) ≡ p) where
  -- a step that is not the one from p
  insert-step : (a b : ℕ) → next_of old a ≡ b → previous_of old b ≡ a → a ≢ x → b ≢ x → a ≢ p → (next_of new a ≡ b) × (previous_of new b ≡ a)
  insert-step a b n q na nb np =
      let far : b ≢ next_of old p = λ e. np (sym q ∙ (ap (previous_of old) e ∙ back)) in
      (i.other_next a na np ∙ n, i.other_previous b nb far ∙ q)

  -- a path that does not have p stays
  pub insert-other : {V : Type 0} (r s : ℕ) (l : List (Link V)) (e : ℕ) → Path old r s l e → Lacks x l → s ≢ x → e ≢ x → Lacks p l → s ≢ p → Path new r s l e
  insert-other r s [] e q a ns ne b np = insert-step s e q.0 q.1 ns ne np
  insert-other r s (y ∷ l) e q a ns ne b np =
      let step = insert-step s y.slot q.0 q.1 ns a.0 np in
      (step.0, step.1, i.other_ring y.slot a.0 ∙ q.2, insert-other r y.slot l e q.3 a.1 a.0 ne b.1 b.0)

  -- the path of p gains x after it
  pub insert-own : {V : Type 0} (s : ℕ) (f : List (Link V)) (v : V) (b : List (Link V)) (e : ℕ) → Path old ring s (f ++ b) e
      → last_from s f ≡ p → Lacks x (f ++ b) → s ≢ x → e ≢ x → Lacks s (f ++ b) → Distinct (f ++ b) → Path new ring s (f ++ link x v ∷ b) e
  insert-own s [] v [] e q is a ns ne away d =
      let behind : next_of old p ≡ e = ap (next_of old) (sym is) ∙ q.0 in
      (ap (next_of new) is ∙ i.next_there, i.previous_here ∙ sym is, i.ring_here, (i.next_here ∙ behind, ap (previous_of new) (sym behind) ∙ i.previous_there))
  insert-own s [] v (y ∷ b) e q is a ns ne away d =
      let behind : next_of old p ≡ y.slot = ap (next_of old) (sym is) ∙ q.0 in
      let apart : Lacks p (y ∷ b) = subst (λ n. Lacks n (y ∷ b)) is away in (
        ap (next_of new) is ∙ i.next_there,
        i.previous_here ∙ sym is,
        i.ring_here,
        (
          i.next_here ∙ behind,
          ap (previous_of new) (sym behind) ∙ i.previous_there,
          i.other_ring y.slot a.0 ∙ q.2,
          insert-other ring y.slot b e q.3 a.1 a.0 ne apart.1 apart.0,
        ),
      )
  insert-own s (y ∷ f) v b e q is a ns ne away d =
      let np : s ≢ p = λ same. last-Lacks s y.slot f away.0 (Lacks-front s f b away.1) (is ∙ sym same) in
      let step = insert-step s y.slot q.0 q.1 ns a.0 np in
      (step.0, step.1, i.other_ring y.slot a.0 ∙ q.2, insert-own y.slot f v b e q.3 is a.1 a.0 ne d.0 d.1)
