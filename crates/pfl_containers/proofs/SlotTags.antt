-- What an index of slots has by their tags when a value comes, goes or is changed, and what it finds. Proofs of the crates above cite these.
use Rattle.std.specs.Prelude.{◌≡◌, ◌<◌, ℕ, Bool, true, false, List, [], ◌∷◌, ◌++◌, length, Option, Some, None, refl}
use Rattle.std.specs.Option.{option_map}
use Rattle.std.specs.declared.cmp.Ordering.{Ordering}
use Rattle.std.specs.Ordering.{eq_by_cmp, nat_cmp}
use Rattle.std.specs.Cmp.{IsTotalOrder, nat_cmp_total}
use Rattle.std.specs.FinMap.{IsAntisymmetric, nat_cmp-IsAntisymmetric}
use Rattle.std.proofs.Common.{cond, ◌∙◌, ap, sym, subst, arith}
use Rattle.pfl_edits.specs.Maps as maps
use Rattle.pfl_edits.specs.Maps.{Map}
use Rattle.pfl_edits.proofs.ForCallers.{row_at, Distinct, own_key, row_at-between, Distinct-without, some_is_none, set_at-back}
use Rattle.pfl_containers.specs.Lists.{Link, link}
use Rattle.pfl_containers.specs.SlotIndexes.{key_of, IsIndexOf, HasNone, IsTagged}
use Rattle.pfl_containers.specs.Slots.{HasTag, FindsBy}
use Rattle.pfl_containers.proofs.Places.{Stands}
use Rattle.pfl_containers.proofs.SlotIndexes.{key_of_row, Distinct-between, found-stands, has_none, made-get, made-len, made-empty, made-with}
use Rattle.pfl_containers.proofs.SlotIndexes.{made-without, stands-found}

module _ {K X : Type 0} (R : K → K → Ordering) where
  -- a row that a scan finds stands among the rows
  found-split : (key : X → K) (xs : List X) (q : K) (x : X) → row_at R key xs q ≡ Some x → (front : List X) × (back : List X) × (xs ≡ front ++ x ∷ back)
  found-split key [] q x e = absurd (some_is_none x (sym e))
  found-split key (y ∷ xs) q x e =
      elim (eq_by_cmp R q (key y)) as (λ b. cond b (Some y) (row_at R key xs q) ≡ Some x → (front : List X) × (back : List X) × (y ∷ xs ≡ front ++ x ∷ back)) [
        | true ↦ λ s. let same : y ≡ x = cc in ([], xs, ap (λ (z : X). z ∷ xs) same)
        | false ↦ λ s. let later = found-split key xs q x s in (y ∷ later.0, later.1, ap (λ (zs : List X). y ∷ zs) later.2)
      ] e

module _ {V K : Type 0} {R : K → K → Ordering} (o : IsTotalOrder R) (exact : IsAntisymmetric R) (key : V → K) (tag : K → ℕ) where
  -- the index of no values
  pub tagged-new : (m : Map nat_cmp ℕ) → m ≡ maps.empty → IsTagged R key tag [] m
  tagged-new m none = record {
    index = subst (IsIndexOf nat_cmp (λ l. l.slot) (λ l. tag (key l.value)) []) (sym none)
        (made-empty nat_cmp_total nat_cmp-IsAntisymmetric (λ l. l.slot) (λ l. tag (key l.value)));
    apart = tt;
  }

  -- it is as long as the values are many
  pub tagged-len : (links : List (Link V)) (m : Map nat_cmp ℕ) → IsTagged R key tag links m → maps.len m ≡ length links
  tagged-len links m i = made-len nat_cmp_total nat_cmp-IsAntisymmetric (λ l. l.slot) (λ l. tag (key l.value)) links m i.index

  -- it has room where the values do
  pub tagged-room : (limit n : ℕ) (links : List (Link V)) (m : Map nat_cmp ℕ) → IsTagged R key tag links m → n ≡ limit → length links < limit → maps.len m < n
  tagged-room limit n links m i same room = omega (arith, tagged-len links m i)

  -- the tag of a value that stands there is under its slot
  pub tagged-has : (front : List (Link V)) (l : Link V) (back : List (Link V)) (m : Map nat_cmp ℕ)
      → IsTagged R key tag (front ++ l ∷ back) m → HasTag m (tag (key l.value)) l.slot
  tagged-has front l back m i =
      let alone = (Distinct-without nat_cmp_total nat_cmp-IsAntisymmetric (λ (x : Link V). x.slot) front l back i.index.apart).0 in
      made-get nat_cmp_total nat_cmp-IsAntisymmetric (λ x. x.slot) (λ x. tag (key x.value)) (front ++ l ∷ back) m l.slot i.index
      ∙ ap (option_map (λ (x : Link V). tag (key x.value)))
      (row_at-between nat_cmp_total nat_cmp-IsAntisymmetric (λ (x : Link V). x.slot) front l back l.slot alone
      ∙ ap (λ b. cond b (Some l) (row_at nat_cmp (λ (x : Link V). x.slot) (front ++ back) l.slot))
      (own_key nat_cmp_total nat_cmp-IsAntisymmetric (λ (x : Link V). x.slot) l.slot))

  -- a value more, at a slot that had none
  pub tagged-gained : (front back : List (Link V)) (slot : ℕ) (v : V) (old new : Map nat_cmp ℕ) (t : ℕ) → t ≡ tag (key v)
      → new ≡ maps.insert old slot t → maps.get old slot ≡ None
      → IsTagged R key tag (front ++ back) old → HasNone R key (front ++ back) (key v) → IsTagged R key tag (front ++ link slot v ∷ back) new
  tagged-gained front back slot v old new t same is fresh i none = record {
    index = subst (IsIndexOf nat_cmp (λ l. l.slot) (λ l. tag (key l.value)) (front ++ link slot v ∷ back)) (sym (is ∙ ap (λ n. maps.insert old slot n) same))
        (made-with nat_cmp_total nat_cmp-IsAntisymmetric (λ l. l.slot) (λ l. tag (key l.value)) front (link slot v) back old i.index
        (unknown (row_at nat_cmp (λ (l : Link V). l.slot) (front ++ back) slot)
        (sym (made-get nat_cmp_total nat_cmp-IsAntisymmetric (λ l. l.slot) (λ l. tag (key l.value)) (front ++ back) old slot i.index) ∙ fresh)));
    apart = Distinct-between o exact (key_of key) front (link slot v) back i.apart none;
  }
    where
      unknown : (at : Option (Link V)) → option_map (λ (l : Link V). tag (key l.value)) at ≡ None → at ≡ None
      unknown None e = refl
      unknown (Some l) e = absurd (some_is_none (tag (key l.value)) e)

  -- a value less
  pub tagged-lost : (front back : List (Link V)) (slot : ℕ) (v : V) (old new : Map nat_cmp ℕ) → new ≡ maps.remove old slot
      → IsTagged R key tag (front ++ link slot v ∷ back) old
      → IsTagged R key tag (front ++ back) new
  tagged-lost front back slot v old new is i = record {
    index = subst (IsIndexOf nat_cmp (λ l. l.slot) (λ l. tag (key l.value)) (front ++ back)) (sym is)
        (made-without nat_cmp_total nat_cmp-IsAntisymmetric (λ l. l.slot) (λ l. tag (key l.value)) front (link slot v) back old i.index);
    apart = (Distinct-without o exact (key_of key) front (link slot v) back i.apart).1;
  }

  -- a slot that was given up has none
  pub tagged-gone : (front back : List (Link V)) (slot : ℕ) (v : V) (old : Map nat_cmp ℕ)
      → IsTagged R key tag (front ++ link slot v ∷ back) old → maps.get (maps.remove old slot) slot ≡ None
  tagged-gone front back slot v old i =
      made-get nat_cmp_total nat_cmp-IsAntisymmetric (λ l. l.slot) (λ l. tag (key l.value)) (front ++ back) (maps.remove old slot) slot
      (made-without nat_cmp_total nat_cmp-IsAntisymmetric (λ l. l.slot) (λ l. tag (key l.value)) front (link slot v) back old i.index)
      ∙ ap (option_map (λ (l : Link V). tag (key l.value)))
      (Distinct-without nat_cmp_total nat_cmp-IsAntisymmetric (λ (l : Link V). l.slot) front (link slot v) back i.index.apart).0

  -- another value at a slot
  pub tagged-moved : (front back : List (Link V)) (slot : ℕ) (was v : V) (old new : Map nat_cmp ℕ) (t : ℕ) → t ≡ tag (key v)
      → new ≡ maps.insert (maps.remove old slot) slot t
      → IsTagged R key tag (front ++ link slot was ∷ back) old → HasNone R key (front ++ back) (key v) → IsTagged R key tag (front ++ link slot v ∷ back) new
  tagged-moved front back slot was v old new t same is i none =
      tagged-gained front back slot v (maps.remove old slot) new t same is (tagged-gone front back slot was old i)
      (tagged-lost front back slot was old (maps.remove old slot) refl i) none

  -- another value of the same key at a slot
  pub tagged-kept : (front back : List (Link V)) (slot : ℕ) (was v : V) (m : Map nat_cmp ℕ) → key v ≡ key was
      → IsTagged R key tag (front ++ link slot was ∷ back) m → IsTagged R key tag (front ++ link slot v ∷ back) m
  tagged-kept front back slot was v m same i =
      let none : HasNone R key (front ++ back) (key v) = ap (row_at R (key_of key) (front ++ back)) same
      ∙ (Distinct-without o exact (key_of key) front (link slot was) back i.apart).0 in
      subst (IsTagged R key tag (front ++ link slot v ∷ back))
      (ap (λ k. maps.insert (maps.remove m slot) slot (tag k)) same
      ∙ set_at-back nat_cmp_total nat_cmp-IsAntisymmetric m slot (Some (tag (key was))) None (tagged-has front (link slot was) back m i))
      (tagged-moved front back slot was v m (maps.insert (maps.remove m slot) slot (tag (key v))) (tag (key v)) refl refl i none)

  -- the value that stands at a slot with a tag
  pub tagged-stands : (links : List (Link V)) (m : Map nat_cmp ℕ) (slot t : ℕ) → IsTagged R key tag links m → HasTag m t slot → (v : V) × Stands slot links v
  tagged-stands links m slot t i has =
      at (row_at nat_cmp (λ (l : Link V). l.slot) links slot) refl
      (sym (made-get nat_cmp_total nat_cmp-IsAntisymmetric (λ l. l.slot) (λ l. tag (key l.value)) links m slot i.index) ∙ has)
    where
      at : (found : Option (Link V)) → row_at nat_cmp (λ (l : Link V). l.slot) links slot ≡ found
          → option_map (λ (l : Link V). tag (key l.value)) found ≡ Some t → (v : V) × Stands slot links v
      at None is e = absurd (some_is_none t (sym e))
      at (Some l) is e =
          let here = key_of_row nat_cmp_total nat_cmp-IsAntisymmetric (λ (x : Link V). x.slot) links slot l is in
          let split = found-split nat_cmp (λ (x : Link V). x.slot) links slot l is in
          (l.value, record { front = split.0; back = split.1; split = split.2 ∙ ap (λ n. split.0 ++ link n l.value ∷ split.1) here })

  -- a slot at which no value stands has no tag
  pub tagged-fresh : (links : List (Link V)) (m : Map nat_cmp ℕ) (slot : ℕ) → IsTagged R key tag links m
      → ((v : V) → Stands slot links v → ⊥) → maps.get m slot ≡ None
  tagged-fresh links m slot i free = none (maps.get m slot) refl
    where
      none : (t : Option ℕ) → maps.get m slot ≡ t → t ≡ None
      none None is = refl
      none (Some t) is = let at = tagged-stands links m slot t i is in absurd (free at.0 at.1)

  -- Where each slot's answer says whether its value has a key, the search among the slots of the key's tag finds the value of the key.
  pub tagged-found : (answer : ℕ → Bool → Type 0) (links : List (Link V)) (m : Map nat_cmp ℕ) (q : K) (t : ℕ) (found : Option ℕ)
      → IsTagged R key tag links m → t ≡ tag q → FindsBy answer m t found
      → ((slot : ℕ) (v : V) → Stands slot links v → answer slot true → key v ≡ q)
      → ((slot : ℕ) (v : V) → Stands slot links v → answer slot false → key v ≡ q → ⊥)
      → found ≡ option_map (λ l. l.slot) (row_at R (key_of key) links q)
  tagged-found answer links m q t None i same finds is_its is_not =
      sym (ap (option_map (λ (l : Link V). l.slot))
      (has_none R key links q (λ l is.
      let stands = found-stands R key links q l is in
      let its = key_of_row o exact (key_of key) links q l is in
      let has = tagged-has stands.front (link l.slot l.value) stands.back m (subst (λ (ls : List (Link V)). IsTagged R key tag ls m) stands.split i) in
      is_not l.slot l.value stands (finds l.slot (has ∙ ap (λ n. Some n) (ap tag its ∙ sym same))) its)))
  tagged-found answer links m q t (Some slot) i same finds is_its is_not =
      let at = tagged-stands links m slot t i finds.0 in
      let its = is_its slot at.0 at.1 finds.1 in
      let found = ap (λ (ls : List (Link V)). row_at R (key_of key) ls (key at.0)) at.1.split
      ∙ stands-found o exact key at.1.front (link slot at.0) at.1.back (subst (Distinct R (key_of key)) at.1.split i.apart) in
      sym (ap (option_map (λ (l : Link V). l.slot)) (ap (row_at R (key_of key) links) (sym its) ∙ found))
