-- What events do to the link, and that two of them may change places there: a frame leaves, or one comes under the next ticket.
use Rattle.std.specs.Prelude.{◌≡◌, ◌≢◌, ◌≤◌, ◌<◌, ◌+◌, ◌-◌, ℕ, Bool, true, false, cond, Option, Some, None, refl}
use Rattle.std.specs.Cmp.{IsTotalOrder}
use Rattle.std.specs.FinMap.{IsAntisymmetric}
use Rattle.std.specs.Ordering.{eq_by_cmp}
use Rattle.std.specs.declared.cmp.Ordering.{Ordering}
use Rattle.std.proofs.Common.{◌∙◌, ap, sym, inl, inr, arith}
use Rattle.std.proofs.lemmas.Bool.{leb-false, lt-leb}
use Rattle.std.proofs.lemmas.Cmp.{nat_cmp_total}
use Rattle.std.proofs.lemmas.Map.Lookups.{exact_unsigned}
use Rattle.pfl_edits.specs.Maps as maps
use Rattle.pfl_edits.specs.Maps.{Map, set_at}
use Rattle.pfl_edits.proofs.ForCallers.{equal_is, get-set_at, get-set_at_cases, get-set_at_other, len-remove, same_map}
use Rattle.pfl_link.specs.Links.{InFlight, Link, is_counted_out, is_full, sent, without_frame}

-- ---- maps

swapped : {X : Type 0} (a b : Bool) (x y z : Option X) → (a ≡ true → b ≡ true → ⊥) → cond a x (cond b y z) ≡ cond b y (cond a x z)
swapped true true x y z apart = absurd (apart refl refl)
swapped true false x y z apart = refl
swapped false b x y z apart = refl

fewer : (b : Bool) (n : ℕ) → cond b (n - 1) n ≤ n
fewer true n = omega arith
fewer false n = omega arith

module _ {K X : Type 0} {R : K → K → Ordering} (o : IsTotalOrder R) (exact : IsAntisymmetric R) where
  -- two keys are set in either order
  pub set_at-swap : (m : Map R X) (p q : K) (x y : Option X) → p ≢ q → set_at (set_at m q y) p x ≡ set_at (set_at m p x) q y
  set_at-swap m p q x y other = same_map o exact _ _ (λ k.
      get-set_at o exact (set_at m q y) p x k
      ∙ ap (cond (eq_by_cmp R k p) x) (get-set_at o exact m q y k)
      ∙ swapped (eq_by_cmp R k p) (eq_by_cmp R k q) x y (maps.get m k) (λ a b. other (sym (exact k p (equal_is (R k p) a)) ∙ exact k q (equal_is (R k q) b)))
      ∙ sym (get-set_at o exact (set_at m p x) q y k ∙ ap (cond (eq_by_cmp R k q) y) (get-set_at o exact m p x k)))

  -- a map is not longer without a key
  pub len-without : (m : Map R X) (k : K) → maps.len (maps.remove m k) ≤ maps.len m
  len-without m k = rw (len-remove o m k) (fewer (maps.contains_key m k) (maps.len m))

-- ---- the link

-- what an event does to the link: nothing, or the frame of a ticket leaves, or a frame comes under the next ticket
pub data LinkPart : Type 0 where
  Stays : LinkPart
  Takes : ℕ → InFlight → LinkPart
  Sends : InFlight → LinkPart

-- the link after it
abbrev pub link_after : LinkPart → Link → Link
link_after Stays l = l
link_after (Takes ticket f) l = without_frame l ticket
link_after (Sends f) l = sent l f

-- a frame may be sent
pub record HasRoom (l : Link) : Type 0 where
  pub not_full : is_full l ≡ false
  pub countable : is_counted_out l ≡ false

-- it may be done to the link
abbrev pub LinkFits : LinkPart → Link → Type 0
LinkFits Stays l = Unit {0}
LinkFits (Takes ticket f) l = maps.get l.frames ticket ≡ Some f
LinkFits (Sends f) l = HasRoom l

-- what came second may come first, where this ticket was the next one
abbrev pub LinkPasses : ℕ → LinkPart → LinkPart → Type 0
LinkPasses next Stays second = Unit {0}
LinkPasses next (Takes ticket f) Stays = Unit {0}
LinkPasses next (Takes ticket f) (Takes other g) = Unit {0}
LinkPasses next (Takes ticket f) (Sends g) = ⊥
LinkPasses next (Sends f) Stays = Unit {0}
LinkPasses next (Sends f) (Takes other g) = other < next
LinkPasses next (Sends f) (Sends g) = ⊥

-- the second comes first, the first after it, and the link is the same
pub record LinkSwaps (first second : LinkPart) (l : Link) : Type 0 where
  pub before : LinkFits second l
  pub then : LinkFits first (link_after second l)
  pub same : link_after first (link_after second l) ≡ link_after second (link_after first l)

both_leave : (t u : ℕ) (f g : InFlight) (l : Link) → maps.get l.frames t ≡ Some f → maps.get (maps.remove l.frames t) u ≡ Some g
    → LinkSwaps (Takes t f) (Takes u g) l
both_leave t u f g l there later = elim (get-set_at_cases nat_cmp_total exact_unsigned l.frames t None u g later) [
  | inl here ↦ absurd (let none = here.1 in cc)
  | inr other ↦
      let apart : t ≢ u = λ same. other.0 (sym same) in
      record {
        before = other.1;
        then = get-set_at_other nat_cmp_total exact_unsigned l.frames u None t apart ∙ there;
        same = λ i. record { limit = l.limit; mtu = l.mtu; next = l.next; frames = set_at-swap nat_cmp_total exact_unsigned l.frames t u None None apart i };
      }
]

still_room : (l : Link) (ticket : ℕ) → HasRoom l → HasRoom (without_frame l ticket)
still_room l ticket room = record {
  not_full =
      let more = leb-false l.limit (maps.len l.frames) room.not_full in
      let few = len-without nat_cmp_total exact_unsigned l.frames ticket in
      lt-leb l.limit (maps.len (maps.remove l.frames ticket)) (omega arith);
  countable = room.countable;
}

one_leaves : (u : ℕ) (f g : InFlight) (l : Link) → HasRoom l → u < l.next → maps.get (maps.insert l.frames l.next f) u ≡ Some g
    → LinkSwaps (Sends f) (Takes u g) l
one_leaves u f g l room stood later =
    let other : u ≢ l.next = omega arith in
    let apart : l.next ≢ u = omega arith in
    record {
      before = sym (get-set_at_other nat_cmp_total exact_unsigned l.frames l.next (Some f) u other) ∙ later;
      then = still_room l u room;
      same =
          let swap = set_at-swap nat_cmp_total exact_unsigned l.frames l.next u (Some f) None apart in
          λ i. record { limit = l.limit; mtu = l.mtu; next = l.next + 1; frames = swap i };
    }

pub link_swaps : (first second : LinkPart) (l : Link) → LinkPasses l.next first second → LinkFits first l → LinkFits second (link_after first l)
    → LinkSwaps first second l
link_swaps Stays second l passes fits later = record { before = later; then = tt; same = refl }
link_swaps (Takes t f) Stays l passes fits later = record { before = tt; then = fits; same = refl }
link_swaps (Takes t f) (Takes u g) l passes fits later = both_leave t u f g l fits later
link_swaps (Takes t f) (Sends g) l passes fits later = absurd passes
link_swaps (Sends f) Stays l passes fits later = record { before = tt; then = fits; same = refl }
link_swaps (Sends f) (Takes u g) l passes fits later = one_leaves u f g l fits passes later
link_swaps (Sends f) (Sends g) l passes fits later = absurd passes

-- ---- tickets

-- tickets are below the next one, which is a number of 32 bits
pub record IsCounted (l : Link) : Type 0 where
  pub below : (ticket : ℕ) (f : InFlight) → maps.get l.frames ticket ≡ Some f → ticket < l.next
  pub countable : l.next ≤ 4294967295

-- a frame under another ticket, or the one of the place
pub below-set_at : (l : Link) (ticket : ℕ) (at : Option InFlight) (next : ℕ) → IsCounted l → ticket < next → l.next ≤ next
    → (q : ℕ) (f : InFlight) → maps.get (set_at l.frames ticket at) q ≡ Some f → q < next
below-set_at l ticket at next is lt more q f found = elim (get-set_at_cases nat_cmp_total exact_unsigned l.frames ticket at q f found) [
  | inl here ↦ let same = here.0 in omega arith
  | inr other ↦ let lt = is.below q f other.1 in omega arith
]

-- what is done to the link keeps that,
pub link_counted : (p : LinkPart) (l : Link) → LinkFits p l → IsCounted l → IsCounted (link_after p l)
link_counted Stays l fits is = is
link_counted (Takes t f) l fits is = record { below = below-set_at l t None l.next is (is.below t f fits) (omega arith); countable = is.countable }
link_counted (Sends f) l fits is =
    let more = leb-false 4294967295 l.next fits.countable in
    record { below = below-set_at l l.next (Some f) (l.next + 1) is (omega arith) (omega arith); countable = omega arith }

-- and never takes a ticket back
pub link_rises : (p : LinkPart) (l : Link) → l.next ≤ (link_after p l).next
link_rises Stays l = omega arith
link_rises (Takes t f) l = omega arith
link_rises (Sends f) l = omega arith
