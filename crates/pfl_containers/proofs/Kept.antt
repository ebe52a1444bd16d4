-- What chains keep, and that it is so again when a slot was taken, put into a list or taken out of one.
use Rattle.std.proofs.Common.{◌≡◌, ◌≢◌, ℕ, zero, suc, ◌+◌, ◌<◌, ◌≤◌, ◌^◌, List, [], ◌∷◌, ◌++◌, length, get_or, set, drop, slice_get, Some, None, true}
use Rattle.std.proofs.Common.{false, cond, ltb, refl, sym, ◌∙◌, ap, subst, arith, add-zero, length-set, length-append}
use Rattle.std.proofs.lemmas.Option.{slice_get_within}
use Rattle.pfl_containers.specs.Lists.{Link, link, last_from, count_of, first_slot, last_slot}
use Rattle.pfl_containers.specs.inner.Rings.{Nodes, next_of, Path, Holds, walk, rings_from, previous_of, slot_of, IsNumber, IsRing, AreRings, IsKept}
use Rattle.pfl_containers.specs.inner.Rings.{Takes, Unlinks, Inserts}
use Rattle.pfl_containers.proofs.Links.{last-Holds, count-set, Holds-front, Holds-back}
use Rattle.pfl_containers.proofs.Paths.{path-last, path-front, path-back}
use Rattle.pfl_containers.proofs.Walked.{rings_from-are, rings-renewed, rings-written}
use Rattle.pfl_containers.proofs.Unlinked.{rings-unlinked}
use Rattle.pfl_containers.proofs.Inserted.{rings-inserted, inserted-after, inserted-next, inserted-apart}

pub slot_of-slot : (limit n : ℕ) → n < limit → slot_of limit n ≡ Some n
slot_of-slot limit n h = let t : ltb n limit ≡ true = search arith in ap (λ b. cond b (Some n) None) t

pub slot_of-none : (limit n : ℕ) → limit ≤ n → slot_of limit n ≡ None
slot_of-none limit n h = let t : ltb n limit ≡ false = search arith in ap (λ b. cond b (Some n) None) t

module _ {V : Type 0} where
  pub length-rings_from : (nodes : Nodes) (values : List V) (s n : ℕ) → length (rings_from nodes values s n) ≡ n
  length-rings_from nodes values s zero = refl
  length-rings_from nodes values s (suc n) = ap suc (length-rings_from nodes values (suc s) n)

  -- what the node after the start of a path, and the one before its end, say of its links
  pub slot-first : (nodes : Nodes) (values : List V) (limit r s : ℕ) (l : List (Link V)) (e : ℕ) → Path nodes r s l e → Holds values l
      → length values ≤ limit → limit ≤ e → slot_of limit (next_of nodes s) ≡ first_slot l
  slot-first nodes values limit r s [] e p h few out = ap (slot_of limit) p.0 ∙ slot_of-none limit e out
  slot-first nodes values limit r s (x ∷ l) e p h few out = ap (slot_of limit) p.0
      ∙ slot_of-slot limit x.slot (omega (arith, slice_get_within values x.slot x.value h.0))

  last-slot : (values : List V) (limit s : ℕ) (l : List (Link V)) → Holds values l → length values ≤ limit → limit ≤ s
      → slot_of limit (last_from s l) ≡ last_slot l
  last-slot values limit s [] h few out = slot_of-none limit s out
  last-slot values limit s (x ∷ l) h few out =
      slot_of-slot limit (last_from x.slot l) (omega (arith, last-Holds values x.slot l (slice_get_within values x.slot x.value h.0) h.1))

  pub slot-last : (nodes : Nodes) (values : List V) (limit r s : ℕ) (l : List (Link V)) (e : ℕ) → Path nodes r s l e → Holds values l
      → length values ≤ limit → limit ≤ s → slot_of limit (previous_of nodes e) ≡ last_slot l
  slot-last nodes values limit r s l e p h few out = ap (slot_of limit) (path-last nodes r s l e p).1 ∙ last-slot values limit s l h few out

  -- both have nodes
  module _ (nodes : Nodes) (values : List V) (limit heads : ℕ) (few : length values ≤ limit) where
    number : (i : ℕ) → i < length values → IsNumber (length values) limit heads i
    number i h = record { below = omega arith; slot = λ _. h }

    next-number : (r s : ℕ) (l : List (Link V)) (e : ℕ) → Path nodes r s l e → Holds values l → IsNumber (length values) limit heads e
        → IsNumber (length values) limit heads (next_of nodes s)
    next-number r s [] e p h end = subst (IsNumber (length values) limit heads) (sym p.0) end
    next-number r s (x ∷ l) e p h end = number (next_of nodes s) (omega (arith, p.0, slice_get_within values x.slot x.value h.0))

    last-number : (s : ℕ) (l : List (Link V)) → Holds values l → IsNumber (length values) limit heads s → IsNumber (length values) limit heads (last_from s l)
    last-number s [] h start = start
    last-number s (x ∷ l) h start = number (last_from x.slot l) (last-Holds values x.slot l (slice_get_within values x.slot x.value h.0) h.1)

    previous-number : (r s : ℕ) (l : List (Link V)) (e : ℕ) → Path nodes r s l e → Holds values l → IsNumber (length values) limit heads s
        → IsNumber (length values) limit heads (previous_of nodes e)
    previous-number r s l e p h start = subst (IsNumber (length values) limit heads) (sym (path-last nodes r s l e p).1) (last-number s l h start)

  -- where these are the rings, the walks find them
  pub kept-new : (nodes : Nodes) (values : List V) (limit lists len : ℕ) (free : List (Link V)) (all : List (List (Link V)))
      → limit + suc lists ≤ 2 ^ 32 → length values ≤ limit → length all ≡ lists → AreRings nodes values limit (length values) (free ∷ all)
      → length free + count_of all ≡ length values → count_of all ≡ len → IsKept nodes values limit lists len
      × (rings_from nodes values (suc limit) lists ≡ all)
  kept-new nodes values limit lists len free all small few many a used linked =
      let whole : rings_from nodes values limit (suc (length all)) ≡ free ∷ all =
      rings_from-are nodes values limit (length values) (free ∷ all) a few (omega arith) in
      let is : rings_from nodes values limit (suc lists) ≡ free ∷ all = subst (λ n. rings_from nodes values limit (suc n) ≡ free ∷ all) many whole in
      let rest : rings_from nodes values (suc limit) lists ≡ all = ap (drop (suc zero)) is in (
        record {
          small = small;
          few = few;
          rings = subst (AreRings nodes values limit (length values)) (sym is) a;
          used = ap count_of is ∙ used;
          linked = ap count_of rest ∙ linked;
        },
        rest,
      )

-- a slot that has a value stands between two nodes of its ring
pub record IsNear (nodes : Nodes) (used limit heads x : ℕ) : Type 0 where
  pub slot : x < used
  pub previous : IsNumber used limit heads (previous_of nodes x)
  pub next : IsNumber used limit heads (next_of nodes x)

pub near : {V : Type 0} (nodes : Nodes) (values : List V) (limit heads loose r : ℕ) (x : ℕ) (v : V) (f b : List (Link V))
    → IsRing nodes values loose r (limit + r) (f ++ link x v ∷ b) → length values ≤ limit → r < heads
    → IsNear nodes (length values) limit heads x
near nodes values limit heads loose r x v f b ring few within =
    let head : IsNumber (length values) limit heads (limit + r) = record { below = omega arith; slot = λ h. absurd (omega arith) } in
    let held = Holds-back values f (link x v ∷ b) ring.held in
    record {
      slot = slice_get_within values x v held.0;
      previous = previous-number nodes values limit heads few r (limit + r) f x
          (path-front nodes r (limit + r) f (link x v) b (limit + r) ring.path) (Holds-front values f (link x v ∷ b) ring.held) head;
      next = next-number nodes values limit heads few r x b (limit + r) (path-back nodes r (limit + r) f (link x v) b (limit + r) ring.path).1 held.1 head;
    }

-- values appended and written
module _ {V : Type 0} where
  slice_get-push : (values : List V) (v : V) → slice_get (values ++ v ∷ []) (length values) ≡ Some v
  slice_get-push [] v = refl
  slice_get-push (x ∷ values) v = slice_get-push values v

  slice_get-append : (values more : List V) (i : ℕ) (v : V) → slice_get values i ≡ Some v → slice_get (values ++ more) i ≡ Some v
  slice_get-append [] more i v e = absurd (cc)
  slice_get-append (x ∷ values) more zero v e = e
  slice_get-append (x ∷ values) more (suc i) v e = slice_get-append values more i v e

  pub slice_get-set : (values : List V) (i : ℕ) (v : V) → i < length values → slice_get (set values i v) i ≡ Some v
  slice_get-set [] i v h = absurd (omega arith)
  slice_get-set (x ∷ values) zero v h = refl
  slice_get-set (x ∷ values) (suc i) v h = slice_get-set values i v (omega arith)

  pub slice_get-set_other : (values : List V) (k i : ℕ) (w v : V) → i ≢ k → slice_get values i ≡ Some v → slice_get (set values k w) i ≡ Some v
  slice_get-set_other [] k i w v ne e = e
  slice_get-set_other (x ∷ values) zero zero w v ne e = absurd (ne refl)
  slice_get-set_other (x ∷ values) zero (suc i) w v ne e = e
  slice_get-set_other (x ∷ values) (suc k) zero w v ne e = e
  slice_get-set_other (x ∷ values) (suc k) (suc i) w v ne e = slice_get-set_other values k i w v (λ same. ne (ap suc same)) e

  -- the free slots, by what stands after the start of their ring
  none_free : (nodes : Nodes) (values : List V) (limit : ℕ) (l : List (Link V)) → Path nodes 0 limit l limit → Holds values l
      → length values ≤ limit → next_of nodes limit ≡ limit → l ≡ []
  none_free nodes values limit [] p h few e = refl
  none_free nodes values limit (x ∷ l) p h few e = absurd (omega (arith, p.0, slice_get_within values x.slot x.value h.0))

  record Begins (x : ℕ) (l : List (Link V)) : Type 0 where
    pub value : V
    pub rest : List (Link V)
    pub split : l ≡ link x value ∷ rest

  first_free : (nodes : Nodes) (limit : ℕ) (l : List (Link V)) → Path nodes 0 limit l limit → next_of nodes limit ≢ limit → Begins (next_of nodes limit) l
  first_free nodes limit [] p ne = absurd (ne p.0)
  first_free nodes limit (x ∷ l) p ne = record { value = x.value; rest = l; split = ap (λ s. link s x.value ∷ l) (sym p.0) }

module _ {V : Type 0} (nodes : Nodes) (values : List V) (limit lists len : ℕ) (kept : IsKept nodes values limit lists len) where
  abbrev free : List (Link V)
  free = walk nodes values (length values) (next_of nodes limit)

  abbrev all : List (List (Link V))
  all = rings_from nodes values (suc limit) lists

  -- each list is a ring
  pub list-ring : (k : ℕ) → k < lists → IsRing nodes values (length values) (suc k) (limit + suc k) (get_or all k [])
  list-ring k h = kept.rings.each (suc k) (omega (arith, length-rings_from nodes values (suc limit) lists))

  free-ring : IsRing nodes values (length values) 0 limit free
  free-ring = subst (λ s. IsRing nodes values (length values) 0 s free) (add-zero limit) (kept.rings.each 0 (omega arith))

  -- no slot was given back: the next that was never used is taken
  pub fresh-room : next_of nodes limit ≡ limit → len < limit → length values < limit
  fresh-room e room = let none = none_free nodes values limit free free-ring.path free-ring.held kept.few e
      in omega (arith, kept.used, kept.linked, ap length none)

  pub take-fresh : (value : V) → next_of nodes limit ≡ limit → len < limit → (new : Nodes)
      → ((i : ℕ) → i ≢ length values → new i ≡ nodes i) → Takes nodes new values (values ++ value ∷ []) limit lists (length values) value
  take-fresh value e room new others =
      let none = none_free nodes values limit free free-ring.path free-ring.held kept.few e in
      let rings : AreRings nodes values limit (length values) ([] ∷ all) =
      subst (λ (l : List (Link V)). AreRings nodes values limit (length values) (l ∷ all)) none kept.rings in
      record {
        few = omega (arith, fresh-room e room, length-append values (value ∷ []));
        there = slice_get-push values value;
        free = [];
        rings = rings-written new values (values ++ value ∷ []) limit (length values) ([] ∷ all)
            (rings-renewed nodes new values limit (length values) ([] ∷ all) rings (fresh-room e room) others)
            (λ i v ne at. slice_get-append values (value ∷ []) i v at)
            (λ y h ne. omega (arith, length-append values (value ∷ [])));
        used = omega (arith, kept.used, ap length none, length-append values (value ∷ []));
      }

  -- the first that was given back
  back-ring : (ne : next_of nodes limit ≢ limit) → Begins (next_of nodes limit) free
  back-ring ne = first_free nodes limit free free-ring.path ne

  pub back-near : next_of nodes limit ≢ limit → IsNear nodes (length values) limit (suc lists) (next_of nodes limit)
  back-near ne =
      let at = back-ring ne in
      let ring : IsRing nodes values (length values) 0 (limit + 0) free =
      subst (λ s. IsRing nodes values (length values) 0 s free) (sym (add-zero limit)) free-ring in
      near nodes values limit (suc lists) (length values) 0 (next_of nodes limit) at.value [] at.rest
      (subst (IsRing nodes values (length values) 0 (limit + 0)) at.split ring) kept.few (omega arith)

  pub take-back : (value : V) (ne : next_of nodes limit ≢ limit) (new : Nodes) → Unlinks nodes new (next_of nodes limit)
      → Takes nodes new values (set values (next_of nodes limit) value) limit lists (next_of nodes limit) value
  take-back value ne new u =
      let at = back-ring ne in
      let x = next_of nodes limit in
      record {
        few = omega (arith, kept.few, length-set values x value);
        there = slice_get-set values x value (back-near ne).slot;
        free = at.rest;
        rings = rings-written new values (set values x value) limit x (at.rest ∷ all)
            (rings-unlinked nodes new values limit (free ∷ all) kept.rings kept.few 0 (omega arith) x at.value [] at.rest at.split u)
            (λ i v other was. slice_get-set_other values x i value v other was)
            (λ y h other. omega (arith, length-set values x value));
        used = omega (arith, kept.used, ap length at.split, length-set values x value);
      }

  -- A slot was taken. It is put into list k, where that has the links f and then b, after the node p.
  module _ (new : Nodes) (now : List V) (slot : ℕ) (value : V) (t : Takes nodes new values now limit lists slot value)
      (k : ℕ) (h : k < lists) (f b : List (Link V)) (split : get_or all k [] ≡ f ++ b) (p : ℕ) (ends : last_from (limit + suc k) f ≡ p) where
    within : suc k < length (t.free ∷ all)
    within = omega (arith, length-rings_from nodes values (suc limit) lists)

    same_heads : (i : ℕ) → IsNumber (length now) limit (length (t.free ∷ all)) i → IsNumber (length now) limit (suc lists) i
    same_heads i is = record { below = omega (arith, is.below, length-rings_from nodes values (suc limit) lists); slot = is.slot }

    pub put-slot : slot < length now
    put-slot = slice_get_within now slot value t.there

    pub put-after : IsNumber (length now) limit (suc lists) p
    put-after = same_heads p (inserted-after new new now limit (t.free ∷ all) slot t.rings t.few value t.there (suc k) within f b split p ends)

    pub put-next : IsNumber (length now) limit (suc lists) (next_of new p) × (slot ≢ next_of new p)
    put-next =
        let next = inserted-next new new now limit (t.free ∷ all) slot t.rings t.few value t.there (suc k) within f b split p ends in
        (same_heads (next_of new p) next.0, next.1)

    pub put-apart : slot ≢ p
    put-apart = inserted-apart new new now limit (t.free ∷ all) slot t.rings t.few value t.there (suc k) within f b split p ends

    pub put-kept : (last : Nodes) → Inserts new last (suc k) slot p → IsKept last now limit lists (suc len)
        × (rings_from last now (suc limit) lists ≡ set all k (f ++ link slot value ∷ b))
    put-kept last i =
        let more = f ++ link slot value ∷ b in
        let count = count-set all k more (omega (arith, length-rings_from nodes values (suc limit) lists)) in
        let longer : length more ≡ suc (length (get_or all k [])) = omega (arith, length-append f (link slot value ∷ b), ap length split, length-append f b) in
        kept-new last now limit lists (suc len) t.free (set all k more) kept.small t.few (length-set all k more
        ∙ length-rings_from nodes values (suc limit) lists)
        (rings-inserted new last now limit (t.free ∷ all) slot t.rings t.few value t.there (suc k) within f b split p ends i)
        (omega (arith, t.used, count, longer)) (omega (arith, kept.linked, count, longer))

  -- The slot x of list k is taken out, and given back.
  module _ (k : ℕ) (h : k < lists) (x : ℕ) (v : V) (f b : List (Link V)) (split : get_or all k [] ≡ f ++ link x v ∷ b) where
    ring : IsRing nodes values (length values) (suc k) (limit + suc k) (f ++ link x v ∷ b)
    ring = subst (IsRing nodes values (length values) (suc k) (limit + suc k)) split (list-ring k h)

    pub drop-there : slice_get values x ≡ Some v
    drop-there = (Holds-back values f (link x v ∷ b) ring.held).0

    pub drop-near : IsNear nodes (length values) limit (suc lists) x
    drop-near = near nodes values limit (suc lists) (length values) (suc k) x v f b ring kept.few (omega arith)

    module _ (new : Nodes) (u : Unlinks nodes new x) where
      less : AreRings new values limit x (free ∷ set all k (f ++ b))
      less = rings-unlinked nodes new values limit (free ∷ all) kept.rings kept.few (suc k)
          (omega (arith, length-rings_from nodes values (suc limit) lists)) x v f b split u

      pub drop-next : IsNumber (length values) limit (suc lists) (next_of new limit) × (x ≢ next_of new limit)
      drop-next =
          let next = inserted-next new new values limit (free ∷ set all k (f ++ b)) x less kept.few v drop-there 0
          (omega arith) [] free refl limit (add-zero limit) in (
            record {
              below = omega (arith, next.0.below, length-set all k (f ++ b), length-rings_from nodes values (suc limit) lists);
              slot = next.0.slot;
            },
            next.1,
          )

      pub drop-kept : (last : Nodes) → Inserts new last 0 x limit → (less : ℕ) → suc less ≡ len → IsKept last values limit lists less
          × (rings_from last values (suc limit) lists ≡ set all k (f ++ b))
      drop-kept last i fewer one =
          let count = count-set all k (f ++ b) (omega (arith, length-rings_from nodes values (suc limit) lists)) in
          let shorter : suc (length (f ++ b)) ≡ length (get_or all k []) = omega (arith, length-append f (link x v ∷ b), ap length split, length-append f b) in
          kept-new last values limit lists fewer (link x v ∷ free) (set all k (f ++ b)) kept.small kept.few (length-set all k (f ++ b)
          ∙ length-rings_from nodes values (suc limit) lists)
          (rings-inserted new last values limit (free ∷ set all k (f ++ b)) x less kept.few v drop-there 0 (omega arith) [] free refl limit (add-zero limit) i)
          (omega (arith, kept.used, count, shorter)) (omega (arith, kept.linked, count, shorter))
