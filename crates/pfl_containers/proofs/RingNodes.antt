-- The nodes of rings by their numbers, and what writing one of them makes of them.
use Rattle.std.proofs.Common.{◌≡◌, ◌≢◌, inl, inr, ℕ, zero, suc, ◌+◌, ◌-◌, ◌<◌, ◌≤◌, List, [], ◌∷◌, ◌++◌, length, get_or, set, true, false, cond, ltb}
use Rattle.std.proofs.Common.{refl, sym, ◌∙◌, ap, arith, get_or-set_same, get_or-set_other, subst, length-set}
use Rattle.std.proofs.lemmas.Bool.{cases_eq, cases_lt}
use Rattle.std.proofs.lemmas.List.{get_or_default}
use Rattle.pfl_edits.specs.declared.in_order.Node.{Node}
use Rattle.pfl_edits.specs.Linked.{no_node}
use Rattle.pfl_containers.specs.declared.chains.rings.Rings.{Rings}
use Rattle.pfl_containers.specs.inner.Rings.{Nodes, nodes_at, node_of, AreAlone, IsNumber, IsNode, IsSlot, AreSized, Fits, next_of, previous_of}
use Rattle.pfl_containers.specs.inner.Rings.{ring_of, SetsNext, SetsPrevious, Unlinks, Inserts}

module _ {A : Type 0} (rings : Rings A) (i : ℕ) where
  -- where the node with a number is kept
  pub slot-node : i < rings.limit → node_of rings i ≡ get_or rings.nodes.items i no_node
  unfolding node_of
  slot-node h = let t : ltb i rings.limit ≡ true =
      search arith in ap (λ b. cond b (get_or rings.nodes.items i no_node) (get_or rings.heads.items (i - rings.limit) no_node)) t

  pub head-node : rings.limit ≤ i → node_of rings i ≡ get_or rings.heads.items (i - rings.limit) no_node
  unfolding node_of
  head-node h = let t : ltb i rings.limit ≡ false =
      search arith in ap (λ b. cond b (get_or rings.nodes.items i no_node) (get_or rings.heads.items (i - rings.limit) no_node)) t

module _ {A : Type 0} (rings : Rings A) (i : ℕ) (n : Node) where
  -- what is read of the nodes of slots, or of the heads
  pub slot-read : i < rings.limit → i < length rings.nodes.items → n ≡ get_or rings.nodes.items i n → n ≡ node_of rings i
  slot-read below within is = is ∙ (get_or_default rings.nodes.items i n no_node within ∙ sym (slot-node rings i below))

  pub head-read : rings.limit ≤ i → i - rings.limit < length rings.heads.items → n ≡ get_or rings.heads.items (i - rings.limit) n → n ≡ node_of rings i
  head-read past within is = is ∙ (get_or_default rings.heads.items (i - rings.limit) n no_node within ∙ sym (head-node rings i past))

-- the same nodes
pub node_of-same : {A : Type 0} (a b : Rings A) → a.limit ≡ b.limit → a.nodes.items ≡ b.nodes.items → a.heads.items ≡ b.heads.items → node_of a ≡ node_of b
unfolding node_of
node_of-same a b limit nodes heads =
    ap (λ l. nodes_at l a.nodes.items a.heads.items) limit ∙ (ap (λ ns. nodes_at b.limit ns a.heads.items) nodes ∙ ap (nodes_at b.limit b.nodes.items) heads)

-- each of these heads is alone
abbrev pub HeadsAlone : ℕ → List Node → Type 0
HeadsAlone limit heads = (r : ℕ) → r < length heads → ((get_or heads r no_node).next ≡ limit + r) × ((get_or heads r no_node).previous ≡ limit + r)

pub heads-alone : {A : Type 0} (rings : Rings A) (count : ℕ) → length rings.heads.items ≡ count → HeadsAlone rings.limit rings.heads.items
    → AreAlone (node_of rings) rings.limit count
heads-alone rings count long alone r h =
    let at : rings.limit + r - rings.limit ≡ r = omega arith in
    let node : node_of rings (rings.limit + r) ≡ get_or rings.heads.items r no_node = head-node rings (rings.limit + r) (omega arith)
    ∙ ap (λ i. get_or rings.heads.items i no_node) at in
    let is = alone r (omega arith) in
    (ap (λ n. n.next) node ∙ is.0, ap (λ n. n.previous) node ∙ is.1)

-- a node more for the next slot
pub grows-others : {A : Type 0} (old new : Rings A) (n : Node) → new.limit ≡ old.limit → new.nodes.items ≡ old.nodes.items ++ n ∷ []
    → new.heads.items ≡ old.heads.items
    → (i : ℕ) → i ≢ length old.nodes.items → node_of new i ≡ node_of old i
grows-others old new n limit is heads i ne = elim (cases_lt i old.limit) [
  | inl h ↦ slot-node new i (omega arith) ∙ (ap (λ ns. get_or ns i no_node) is ∙ (more old.nodes.items i ne ∙ sym (slot-node old i h)))
  | inr h ↦ head-node new i (omega arith)
      ∙ (ap (λ ns. get_or ns (i - new.limit) no_node) heads ∙ (ap (λ l. get_or old.heads.items (i - l) no_node) limit ∙ sym (head-node old i h)))
]
  where
    more : (ns : List Node) (i : ℕ) → i ≢ length ns → get_or (ns ++ n ∷ []) i no_node ≡ get_or ns i no_node
    more [] zero ne = absurd (ne refl)
    more [] (suc i) ne = refl
    more (m ∷ ns) zero ne = refl
    more (m ∷ ns) (suc i) ne = more ns i (λ e. ne (ap suc e))

-- the node x is now n
pub record IsSet (old new : Nodes) (x : ℕ) (n : Node) : Type 0 where
  pub here : new x ≡ n
  pub other : (i : ℕ) → i ≢ x → new i ≡ old i

module _ {A : Type 0} (old new : Rings A) (x : ℕ) (n : Node) (limit : new.limit ≡ old.limit) where
  -- the node of a slot is written,
  pub slot-set : x < old.limit → x < length old.nodes.items → new.nodes.items ≡ set old.nodes.items x n → new.heads.items ≡ old.heads.items
      → IsSet (node_of old) (node_of new) x n
  slot-set below within is heads = record {
    here = slot-node new x (omega arith) ∙ (ap (λ ns. get_or ns x no_node) is ∙ get_or-set_same old.nodes.items x n no_node within);
    other = λ i ne. elim (cases_lt i old.limit) [
      | inl h ↦ slot-node new i (omega arith)
          ∙ (ap (λ ns. get_or ns i no_node) is ∙ (get_or-set_other old.nodes.items x i n no_node ne ∙ sym (slot-node old i h)))
      | inr h ↦ head-node new i (omega arith)
          ∙ (ap (λ ns. get_or ns (i - new.limit) no_node) heads ∙ (ap (λ l. get_or old.heads.items (i - l) no_node) limit ∙ sym (head-node old i h)))
    ];
  }

  -- or that of a head
  pub head-set : old.limit ≤ x → x - old.limit < length old.heads.items → new.heads.items ≡ set old.heads.items (x - old.limit) n
      → new.nodes.items ≡ old.nodes.items → IsSet (node_of old) (node_of new) x n
  head-set past within is nodes = record {
    here = head-node new x (omega arith)
        ∙ (ap (λ l. get_or new.heads.items (x - l) no_node) limit
        ∙ (ap (λ ns. get_or ns (x - old.limit) no_node) is ∙ get_or-set_same old.heads.items (x - old.limit) n no_node within));
    other = λ i ne. elim (cases_lt i old.limit) [
      | inl h ↦ slot-node new i (omega arith) ∙ (ap (λ ns. get_or ns i no_node) nodes ∙ sym (slot-node old i h))
      | inr h ↦
          let apart : i - old.limit ≢ x - old.limit = λ e. ne (omega arith) in
          head-node new i (omega arith)
          ∙ (ap (λ l. get_or new.heads.items (i - l) no_node) limit
          ∙ (ap (λ ns. get_or ns (i - old.limit) no_node) is
          ∙ (get_or-set_other old.heads.items (x - old.limit) (i - old.limit) n no_node apart ∙ sym (head-node old i h))))
    ];
  }

module _ (old new : Nodes) (x n : ℕ) (was : Node) (is : was ≡ old x) where
  -- with another number of the node after it,
  pub sets-next : IsSet old new x (record { ring = was.ring; previous = was.previous; next = n }) → SetsNext old new x n
  sets-next s = record {
    here = ap (λ m. m.next) s.here;
    other = λ i ne. ap (λ m. m.next) (s.other i ne);
    previous = λ i. elim (cases_eq i x) [
      | inl same ↦ ap (previous_of new) same
          ∙ (ap (λ m. m.previous) s.here ∙ (ap (λ m. m.previous) is ∙ ap (previous_of old) (sym same)))
      | inr ne ↦ ap
          (λ m. m.previous) (s.other i ne)
    ];
    rings = λ i. elim (cases_eq i x) [
      | inl same ↦ ap (ring_of new) same
          ∙ (ap (λ m. m.ring) s.here ∙ (ap (λ m. m.ring) is ∙ ap (ring_of old) (sym same)))
      | inr ne ↦ ap (λ m. m.ring) (s.other i ne)
    ];
  }

  -- or of the node before it
  pub sets-previous : IsSet old new x (record { ring = was.ring; previous = n; next = was.next }) → SetsPrevious old new x n
  sets-previous s = record {
    here = ap (λ m. m.previous) s.here;
    other = λ i ne. ap (λ m. m.previous) (s.other i ne);
    next = λ i. elim (cases_eq i x) [
      | inl same ↦ ap (next_of new) same
          ∙ (ap (λ m. m.next) s.here ∙ (ap (λ m. m.next) is ∙ ap (next_of old) (sym same)))
      | inr ne ↦ ap (λ m. m.next) (s.other i ne)
    ];
    rings = λ i. elim (cases_eq i x) [
      | inl same ↦ ap (ring_of new) same
          ∙ (ap (λ m. m.ring) s.here ∙ (ap (λ m. m.ring) is ∙ ap (ring_of old) (sym same)))
      | inr ne ↦ ap (λ m. m.ring) (s.other i ne)
    ];
  }

-- the nodes at both sides of x lead to each other
pub unlinks : (old mid new : Nodes) (x : ℕ) → SetsNext old mid (previous_of old x) (next_of old x)
    → SetsPrevious mid new (next_of old x) (previous_of old x) → Unlinks old new x
unlinks old mid new x s t = record {
  next = t.next (previous_of old x) ∙ s.here;
  previous = t.here;
  other_next = λ i ne. t.next i ∙ s.other i ne;
  other_previous = λ i ne. t.other i ne ∙ s.previous i;
  rings = λ i. t.rings i ∙ s.rings i;
}

-- p leads to x, x is written, and the node after p leads back to x
pub inserts : (old led put new : Nodes) (r x p n : ℕ) → n ≡ next_of old p → x ≢ p → x ≢ next_of old p
    → SetsNext old led p x → IsSet led put x (record { ring = r; previous = p; next = n }) → SetsPrevious put new n x → Inserts old new r x p
inserts old led put new r x p n is apart loose s w t = record {
  next_there = t.next p ∙ (ap (λ m. m.next) (w.other p (λ e. apart (sym e))) ∙ s.here);
  previous_here = t.other x (λ e. loose (e ∙ is)) ∙ ap (λ m. m.previous) w.here;
  next_here = t.next x ∙ (ap (λ m. m.next) w.here ∙ is);
  previous_there = ap (previous_of new) (sym is) ∙ t.here;
  ring_here = t.rings x ∙ ap (λ m. m.ring) w.here;
  other_next = λ i nx np. t.next i ∙ (ap (λ m. m.next) (w.other i nx) ∙ s.other i np);
  other_previous = λ i nx nn. t.other i (λ e. nn (e ∙ is)) ∙ (ap (λ m. m.previous) (w.other i nx) ∙ s.previous i);
  other_ring = λ i nx. t.rings i ∙ (ap (λ m. m.ring) (w.other i nx) ∙ s.rings i);
}

pub sized-node : {A : Type 0} (old new : Rings A) → AreSized old new → (i : ℕ) → IsNode old i → IsNode new i
sized-node old new sized i is = record { below = omega (arith, is.below); slot = λ h. omega (arith, is.slot (omega arith)) }

-- there is a node for each of these
module _ {A : Type 0} (rings : Rings A) (used room lists : ℕ) (fits : Fits rings used room lists) where
  pub fits-node : (limit i : ℕ) → rings.limit ≡ limit → IsNumber used limit (suc lists) i → IsNode rings i
  fits-node limit i same is = record { below = omega (arith, is.below); slot = λ h. let below : i < limit = omega arith in omega (arith, is.slot below) }

  pub fits-slot : (i : ℕ) → i < used → used ≤ rings.limit → IsSlot rings i
  fits-slot i within few = record { used = omega arith; below = omega arith }

  pub fits-used : (i : ℕ) → i < used → used ≤ rings.limit → IsNode rings i
  fits-used i within few = record { below = omega arith; slot = λ _. omega arith }

  pub fits-head : (r i : ℕ) → r ≤ lists → i ≡ rings.limit + r → IsNode rings i
  fits-head r i few is = record { below = omega arith; slot = λ h. absurd (omega arith) }

  -- and so there is after a write
  pub fits-sized : (new : Rings A) → AreSized rings new → Fits new used room lists
  fits-sized new sized = record { used = sized.used ∙ fits.used; heads = sized.heads ∙ fits.heads; node_room = omega arith; value_room = omega arith }

-- and after a value is written
pub fits-set : {V A : Type 0} (rings : Rings A) (values : List V) (i : ℕ) (v : V) (capacity lists : ℕ)
    → Fits rings (length values) capacity lists → Fits rings (length (set values i v)) capacity lists
fits-set rings values i v capacity lists fits = subst (λ n. Fits rings n capacity lists) (sym (length-set values i v)) fits
