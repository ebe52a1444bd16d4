-- Another value is written at a slot that stands in a ring.
use Rattle.std.proofs.Common.{◌≡◌, ◌≢◌, inl, inr, ℕ, suc, ◌+◌, ◌<◌, List, [], ◌∷◌, ◌++◌, length, get_or, set, slice_get, Some, sym, ◌∙◌, ap, subst}
use Rattle.std.proofs.Common.{arith, get_or-set_same, get_or-set_other, length-set, length-append}
use Rattle.std.proofs.lemmas.Bool.{cases_eq}
use Rattle.std.proofs.lemmas.Option.{slice_get_within}
use Rattle.pfl_containers.specs.Lists.{Link, link, Lacks}
use Rattle.pfl_containers.specs.inner.Rings.{Nodes, next_of, Path, walk, rings_from, ring_of, IsRing, AreRings, IsKept}
use Rattle.pfl_containers.proofs.Links.{Lacks-front, Lacks-back, Distinct-without, Distinct-apart, Distinct-with, Holds-append, Holds-front}
use Rattle.pfl_containers.proofs.Links.{Holds-back, Holds-changed, count-set}
use Rattle.pfl_containers.proofs.Paths.{path-back, path-Lacks}
use Rattle.pfl_containers.proofs.Walked.{each-set}
use Rattle.pfl_containers.proofs.Kept.{slice_get-set, slice_get-set_other, length-rings_from, kept-new}

module _ {V : Type 0} (x : ℕ) (was v : V) (b : List (Link V)) where
  path-valued : (nodes : Nodes) (r s : ℕ) (f : List (Link V)) (e : ℕ) → Path nodes r s (f ++ link x was ∷ b) e → Path nodes r s (f ++ link x v ∷ b) e
  path-valued nodes r s [] e p = p
  path-valued nodes r s (y ∷ f) e p = (p.0, p.1, p.2, path-valued nodes r y.slot f e p.3)

  Lacks-valued : (z : ℕ) (f : List (Link V)) → Lacks z (f ++ link x was ∷ b) → Lacks z (f ++ link x v ∷ b)
  Lacks-valued z [] p = p
  Lacks-valued z (y ∷ f) p = (p.0, Lacks-valued z f p.1)

-- The slot x of ring k gets the value v in place of another.
module _ {V : Type 0} (nodes : Nodes) (old : List V) (limit loose : ℕ) (rings : List (List (Link V))) (a : AreRings nodes old limit loose rings)
    (k : ℕ) (within : k < length rings) (x : ℕ) (was v : V) (f b : List (Link V)) (split : get_or rings k [] ≡ f ++ link x was ∷ b) where
  abbrev valued : List (Link V)
  valued = f ++ link x v ∷ b

  own : IsRing nodes old loose k (limit + k) (f ++ link x was ∷ b)
  own = subst (IsRing nodes old loose k (limit + k)) split (a.each k within)

  below : x < length old
  below = slice_get_within old x was (Holds-back old f (link x was ∷ b) own.held).0

  keep : (i : ℕ) (w : V) → i ≢ x → slice_get old i ≡ Some w → slice_get (set old x v) i ≡ Some w
  keep i w ne at = slice_get-set_other old x i v w ne at

  apart : Lacks x (f ++ b)
  apart = Distinct-apart f (link x was) b own.distinct

  ring_own : IsRing nodes (set old x v) loose k (limit + k) valued
  ring_own = record {
    path = path-valued x was v b nodes k (limit + k) f (limit + k) own.path;
    distinct = Distinct-with f (link x v) b (Distinct-without f (link x was) b own.distinct) apart;
    held = Holds-append (set old x v) f (link x v ∷ b)
        (Holds-changed old (set old x v) x f keep (Lacks-front x f b apart) (Holds-front old f (link x was ∷ b) own.held))
        (slice_get-set old x v below, Holds-changed old (set old x v) x b keep (Lacks-back x f b apart) (Holds-back old f (link x was ∷ b) own.held).1);
    apart = Lacks-valued x was v b loose f own.apart;
  }

  ring_kept : (r : ℕ) → r < length rings → r ≢ k → IsRing nodes (set old x v) loose r (limit + r) (get_or rings r [])
  ring_kept r h other =
      let ring = a.each r h in
      let known = path-back nodes k (limit + k) f (link x was) b (limit + k) own.path in
      let lacks = path-Lacks nodes r (limit + r) (get_or rings r []) (limit + r) x ring.path (λ e. other (sym e ∙ known.0)) in
      record {
        path = ring.path;
        distinct = ring.distinct;
        held = Holds-changed old (set old x v) x (get_or rings r []) keep lacks ring.held;
        apart = ring.apart;
      }

  still_stands : (y : ℕ) → y < length old → y ≢ loose → Lacks y (get_or (set rings k valued) (ring_of nodes y) []) → ⊥
  still_stands y h ne lacks = elim (cases_eq (ring_of nodes y) k) [
    | inl same ↦
        let here : get_or (set rings k valued) (ring_of nodes y) [] ≡ valued = ap (λ r. get_or (set rings k valued) r []) same
        ∙ get_or-set_same rings k valued [] within in
        a.stands y h ne (subst (Lacks y) (sym (ap (λ r. get_or rings r []) same ∙ split)) (Lacks-valued x v was b y f (subst (Lacks y) here lacks)))
    | inr other ↦ a.stands y h ne (subst (Lacks y) (get_or-set_other rings k (ring_of nodes y) valued [] other) lacks)
  ]

  rings-valued : AreRings nodes (set old x v) limit loose (set rings k valued)
  rings-valued = record {
    each = each-set (λ r (l : List (Link V)). IsRing nodes (set old x v) loose r (limit + r) l) rings k valued [] within ring_own ring_kept;
    within = λ y h ne. let was_within = a.within y (omega (arith, length-set old x v)) ne in omega (arith, length-set rings k valued);
    stands = λ y h ne. still_stands y (omega (arith, length-set old x v)) ne;
  }

-- The slot x of list k gets the value v in place of another.
pub kept-valued : {V : Type 0} (nodes : Nodes) (values : List V) (limit lists len : ℕ) → IsKept nodes values limit lists len
    → (k : ℕ) → k < lists → (x : ℕ) (was v : V) (f b : List (Link V)) → get_or (rings_from nodes values (suc limit) lists) k [] ≡ f ++ link x was ∷ b
    → IsKept nodes (set values x v) limit lists len
    × (rings_from nodes (set values x v) (suc limit) lists ≡ set (rings_from nodes values (suc limit) lists) k (f ++ link x v ∷ b))
kept-valued {V = V} nodes values limit lists len kept k h x was v f b split =
    let all : List (List (Link V)) = rings_from nodes values (suc limit) lists in
    let free : List (Link V) = walk nodes values (length values) (next_of nodes limit) in
    let more : List (Link V) = f ++ link x v ∷ b in
    let many = length-rings_from nodes values (suc limit) lists in
    let within : suc k < length (free ∷ all) = omega (arith, many) in
    let rings = rings-valued nodes values limit (length values) (free ∷ all) kept.rings (suc k) within x was v f b split in
    let count = count-set all k more (omega (arith, many)) in
    let same : length more ≡ length (get_or all k []) = omega (arith, length-append f (link x v ∷ b), ap length split, length-append f (link x was ∷ b)) in
    kept-new nodes (set values x v) limit lists len free (set all k more) kept.small (omega (arith, kept.few, length-set values x v))
    (length-set all k more ∙ many)
    (subst (λ n. AreRings nodes (set values x v) limit n (free ∷ set all k more)) (sym (length-set values x v)) rings)
    (omega (arith, kept.used, count, same, length-set values x v)) (omega (arith, kept.linked, count, same))
