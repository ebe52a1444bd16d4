-- What the nodes say of the lists that contracts see.
use Rattle.std.proofs.Common.{◌≡◌, ◌≢◌, ℕ, suc, ◌+◌, ◌-◌, ◌<◌, ◌≤◌, List, [], ◌∷◌, ◌++◌, length, map, get_or, set, slice_get, Option, Some, refl, sym}
use Rattle.std.proofs.Common.{◌∙◌, ap, subst, arith, add-one, length-append}
use Rattle.std.specs.Option.{unwrap_or}
use Rattle.std.proofs.lemmas.Option.{slice_get_within, same_Some}
use Rattle.pfl_containers.specs.Lists.{Link, link, value_of, Lists, Place, Gap, StandsIn, AreLists, Lacks, links_of, with_links, count_of, first_slot}
use Rattle.pfl_containers.specs.Lists.{last_slot, last_from}
use Rattle.pfl_containers.specs.inner.Rings.{Nodes, next_of, Holds, walk, rings_from, previous_of, ring_of, slot_of, IsNumber, IsRing, IsKept}
use Rattle.pfl_containers.specs.inner.Rings.{HasRoom, Takes, Unlinks, Inserts}
use Rattle.pfl_edits.specs.declared.in_order.Node.{Node}
use Rattle.pfl_edits.specs.Linked.{entries_from, next_of as next_in}
use Rattle.pfl_containers.proofs.Links.{found, Holds-back, Holds-front, Lacks-back, count-get}
use Rattle.pfl_containers.proofs.Paths.{path-front, path-back}
use Rattle.pfl_containers.proofs.Valued.{kept-valued}
use Rattle.pfl_containers.proofs.WalkEntries.{rings_from-get, walk-entries}
use Rattle.pfl_containers.proofs.Kept.{IsNear, slot-first, slot-last, length-rings_from, list-ring, drop-near, drop-next, drop-kept, put-slot}
use Rattle.pfl_containers.proofs.Kept.{put-after, put-next, put-apart, put-kept}

-- the lists c are those of the nodes
module _ {V : Type 0} (nodes : Nodes) (values : List V) (limit lists len : ℕ) (kept : IsKept nodes values limit lists len)
    (c : Lists V) (is : record { lists = rings_from nodes values (suc limit) lists; limit = limit } ≡ c) where
  pub lists-counted : length c.lists ≡ lists
  lists-counted = ap (λ (d : Lists V). length d.lists) (sym is) ∙ length-rings_from nodes values (suc limit) lists

  pub list-within : (k : ℕ) → k < length c.lists → k < lists
  list-within k h = omega (arith, lists-counted)

  list-links : (k : ℕ) → k < lists → IsRing nodes values (length values) (suc k) (limit + suc k) (links_of c k)
  list-links k h = subst (λ (d : Lists V). IsRing nodes values (length values) (suc k) (limit + suc k) (links_of d k)) is
      (list-ring nodes values limit lists len kept k h)

  -- a list's first link and its last, at the node i that begins its ring
  pub first-read : (k i : ℕ) → k < length c.lists → i ≡ limit + suc k → slot_of limit (next_of nodes i) ≡ first_slot (links_of c k)
  first-read k i h begins = let ring = list-links k (list-within k h) in ap (λ n. slot_of limit (next_of nodes n)) begins
      ∙ slot-first nodes values limit (suc k) (limit + suc k) (links_of c k) (limit + suc k) ring.path ring.held kept.few (omega arith)

  pub last-read : (k i : ℕ) → k < length c.lists → i ≡ limit + suc k → slot_of limit (previous_of nodes i) ≡ last_slot (links_of c k)
  last-read k i h begins = let ring = list-links k (list-within k h) in ap (λ n. slot_of limit (previous_of nodes n)) begins
      ∙ slot-last nodes values limit (suc k) (limit + suc k) (links_of c k) (limit + suc k) ring.path ring.held kept.few (omega arith)

  -- a list's values are those on the way from the node i that begins its ring
  pub list-entries : (items : List Node) → ((i : ℕ) → i < length values → next_of nodes i ≡ next_in items i)
      → (k i : ℕ) → k < length c.lists → i ≡ limit + 1 + k → map value_of (links_of c k) ≡ entries_from items values (length values) (next_of nodes i)
  list-entries items same_nodes k i h begins =
      let there : links_of c k ≡ walk nodes values (length values) (next_of nodes (suc limit + k)) =
      ap (λ (d : Lists V). links_of d k) (sym is) ∙ rings_from-get nodes values (suc limit) lists k (list-within k h) in
      let same : suc limit + k ≡ i = omega arith in
      ap (map value_of) there ∙ (walk-entries nodes values items same_nodes (length values) (next_of nodes (suc limit + k))
      ∙ ap (λ n. entries_from items values (length values) (next_of nodes n)) same)

  module _ (slot : ℕ) (at : Place c slot) where
    place-ring : IsRing nodes values (length values) (suc at.list) (limit + suc at.list) (at.front ++ link slot at.value ∷ at.back)
    place-ring = subst (IsRing nodes values (length values) (suc at.list) (limit + suc at.list)) at.split (list-links at.list (list-within at.list at.within))

    -- what stands at a place
    pub place-there : slice_get values slot ≡ Some at.value
    place-there = (Holds-back values at.front (link slot at.value ∷ at.back) place-ring.held).0

    pub place-below : slot < length values
    place-below = slice_get_within values slot at.value place-there

    pub place-ring_of : ring_of nodes slot ≡ suc at.list
    place-ring_of = (path-back nodes (suc at.list) (limit + suc at.list) at.front (link slot at.value) at.back (limit + suc at.list) place-ring.path).0

    pub next-read : slot_of limit (next_of nodes slot) ≡ first_slot at.back
    next-read =
        slot-first nodes values limit (suc at.list) slot at.back (limit + suc at.list)
        (path-back nodes (suc at.list) (limit + suc at.list) at.front (link slot at.value) at.back (limit + suc at.list) place-ring.path).1
        (Holds-back values at.front (link slot at.value ∷ at.back) place-ring.held).1 kept.few (omega arith)

    pub previous-read : slot_of limit (previous_of nodes slot) ≡ last_slot at.front
    previous-read =
        slot-last nodes values limit (suc at.list) (limit + suc at.list) at.front slot
        (path-front nodes (suc at.list) (limit + suc at.list) at.front (link slot at.value) at.back (limit + suc at.list) place-ring.path)
        (Holds-front values at.front (link slot at.value ∷ at.back) place-ring.held) kept.few (omega arith)

    -- it may be taken out of its ring, or get another value
    place-split : get_or (rings_from nodes values (suc limit) lists) at.list [] ≡ at.front ++ link slot at.value ∷ at.back
    place-split = subst (λ (d : Lists V). links_of d at.list ≡ at.front ++ link slot at.value ∷ at.back) (sym is) at.split

    pub place-valued : (v : V) → IsKept nodes (set values slot v) limit lists len
        × (record { lists = rings_from nodes (set values slot v) (suc limit) lists; limit = limit } ≡ with_links c at.list (at.front ++ link slot v ∷ at.back))
    place-valued v =
        let new = kept-valued nodes values limit lists len kept at.list (list-within at.list at.within) slot at.value v at.front at.back place-split in (
          new.0,
          ap (λ (ls : List (List (Link V))). record { lists = ls; limit = limit }) new.1
              ∙ ap (λ (d : Lists V). with_links d at.list (at.front ++ link slot v ∷ at.back)) is,
        )

    pub place-near : IsNear nodes (length values) limit (suc lists) slot
    place-near = drop-near nodes values limit lists len kept at.list (list-within at.list at.within) slot at.value at.front at.back place-split

    pub place-counted : 1 ≤ len
    place-counted = omega (
      arith,
      kept.linked,
      count-get
          (rings_from nodes values (suc limit) lists) at.list,
      ap length place-split,
      length-append at.front (link slot at.value ∷ at.back),
    )

    pub place-loose : (new : Nodes) → Unlinks nodes new slot → IsNumber (length values) limit (suc lists) (next_of new limit) × (slot ≢ next_of new limit)
    place-loose new u = drop-next nodes values limit lists len kept at.list (list-within at.list at.within) slot at.value at.front at.back place-split new u

    -- and given back
    pub place-dropped : (new last : Nodes) → Unlinks nodes new slot → Inserts new last 0 slot limit → (still : ℕ) → still ≡ limit
        → IsKept last values still lists (len - 1)
        × (record { lists = rings_from last values (suc still) lists; limit = still } ≡ with_links c at.list (at.front ++ at.back))
    place-dropped new last u i still same =
        let kept_less = drop-kept nodes values limit lists len kept at.list
        (list-within at.list at.within) slot at.value at.front at.back place-split new u last i (len - 1) (omega (arith, place-counted)) in
        subst
        (λ (l : ℕ). IsKept last values l lists (len - 1)
        × (record { lists = rings_from last values (suc l) lists; limit = l } ≡ with_links c at.list (at.front ++ at.back)))
        (sym same) (
          kept_less.0,
          ap (λ (ls : List (List (Link V))). record { lists = ls; limit = limit }) kept_less.1
              ∙ ap (λ (d : Lists V). with_links d at.list (at.front ++ at.back)) is,
        )

  -- where links may be added, a slot may be taken
  pub room-read : count_of c.lists < c.limit → len < limit
  room-read h = let room : count_of (rings_from nodes values (suc limit) lists) < limit =
      subst (λ (d : Lists V). count_of d.lists < d.limit) (sym is) h in omega (arith, kept.linked)

  abbrev pub has-room : count_of c.lists < c.limit → HasRoom nodes values limit
  has-room h = record { lists = lists; len = len; kept = kept; room = room-read h }

  -- A slot was taken. It is put into a gap of list k, after the node p.
  module _ (new : Nodes) (now : List V) (slot : ℕ) (value : V) (t : Takes nodes new values now limit lists slot value)
      (k : ℕ) (h : k < length c.lists) (behind : Option ℕ) (gap : Gap c k behind) (p : ℕ) (place : p ≡ unwrap_or behind (limit + 1 + k)) where
    gap-split : get_or (rings_from nodes values (suc limit) lists) k [] ≡ gap.front ++ gap.back
    gap-split = subst (λ (d : Lists V). links_of d k ≡ gap.front ++ gap.back) (sym is) gap.split

    last_is : (l : List (Link V)) (s : ℕ) → last_from s l ≡ unwrap_or (last_slot l) s
    last_is [] s = refl
    last_is (x ∷ l) s = refl

    gap-ends : last_from (limit + suc k) gap.front ≡ p
    gap-ends =
        let begins : limit + suc k ≡ limit + 1 + k = omega arith in
        last_is gap.front (limit + suc k) ∙ (ap (λ o. unwrap_or o (limit + suc k)) gap.ends ∙ (ap (unwrap_or behind) begins ∙ sym place))

    pub gap-slot : slot < length now
    gap-slot = put-slot nodes values limit lists len kept new now slot value t k (list-within k h) gap.front gap.back gap-split p gap-ends

    pub gap-after : IsNumber (length now) limit (suc lists) p
    gap-after = put-after nodes values limit lists len kept new now slot value t k (list-within k h) gap.front gap.back gap-split p gap-ends

    pub gap-next : IsNumber (length now) limit (suc lists) (next_of new p) × (slot ≢ next_of new p)
    gap-next = put-next nodes values limit lists len kept new now slot value t k (list-within k h) gap.front gap.back gap-split p gap-ends

    pub gap-apart : slot ≢ p
    gap-apart = put-apart nodes values limit lists len kept new now slot value t k (list-within k h) gap.front gap.back gap-split p gap-ends

    pub gap-filled : (last : Nodes) → Inserts new last (k + 1) slot p → (still : ℕ) → still ≡ limit
        → IsKept last now still lists (len + 1)
        × (record { lists = rings_from last now (suc still) lists; limit = still } ≡ with_links c k (gap.front ++ link slot value ∷ gap.back))
    gap-filled last i still same =
        let inserts : Inserts new last (suc k) slot p = subst (λ r. Inserts new last r slot p) (add-one k) i in
        let more = put-kept nodes values limit lists len kept new now slot value t k (list-within k h) gap.front gap.back gap-split p gap-ends last inserts in
        subst
        (λ (l : ℕ). IsKept last now l lists (len + 1)
        × (record { lists = rings_from last now (suc l) lists; limit = l } ≡ with_links c k (gap.front ++ link slot value ∷ gap.back)))
        (sym same) (
          subst (IsKept last now limit lists) (sym (add-one len)) more.0,
          ap (λ (ls : List (List (Link V))). record { lists = ls; limit = limit }) more.1
              ∙ ap (λ (d : Lists V). with_links d k (gap.front ++ link slot value ∷ gap.back)) is,
        )

  -- it stood in no list
  pub taken-fresh : (new : Nodes) (now : List V) (slot : ℕ) (value : V) → Takes nodes new values now limit lists slot value → Place c slot → ⊥
  taken-fresh new now slot value t at =
      let apart : Lacks slot (get_or (rings_from nodes values (suc limit) lists) at.list []) =
      (t.rings.each (suc at.list) (omega (arith, list-within at.list at.within, length-rings_from nodes values (suc limit) lists))).apart in
      (Lacks-back slot at.front (link slot at.value ∷ at.back) (subst (Lacks slot) (place-split slot at) apart)).0 refl

  -- what callers may know
  pub lists-known : AreLists c
  lists-known = record {
    few = subst (λ (d : Lists V). count_of d.lists ≤ d.limit) is (omega (arith, kept.used, kept.few));
    below = λ slot at. subst (λ (d : Lists V). slot < d.limit) is (omega (arith, place-below slot at, kept.few));
    distinct = λ k h. (list-links k (list-within k h)).distinct;
    apart = λ slot a b. omega (arith, place-ring_of slot a, place-ring_of slot b);
  }

  -- a slot of ring k + 1 stands in list k
  pub get-read : (slot k : ℕ) (v : V) → slice_get values slot ≡ Some v → ring_of nodes slot ≡ suc k → StandsIn c slot k v
  get-read slot k v there ring =
      let below = slice_get_within values slot v there in
      let fresh : slot ≢ length values = λ e. absurd (omega arith) in
      let inner : k < lists = omega (arith, kept.rings.within slot below fresh, length-rings_from nodes values (suc limit) lists) in
      let stands : Lacks slot (links_of c k)
      → ⊥ = λ lacks. kept.rings.stands slot below fresh
      (subst (λ r. Lacks slot (get_or (rings_from nodes values limit (suc lists)) r [])) (sym ring)
      (subst (λ (d : Lists V). Lacks slot (links_of d k)) (sym is) lacks)) in
      let at = found slot (links_of c k) stands in
      let held : Holds values (at.front ++ link slot at.value ∷ at.back) = subst (Holds values) at.split (list-links k inner).held in (
        record {
          list = k;
          within = omega (arith, lists-counted);
          front = at.front;
          value = at.value;
          back = at.back;
          split = at.split;
        },
        refl,
        same_Some at.value v (sym (Holds-back values at.front (link slot at.value ∷ at.back) held).0 ∙ there),
      )
