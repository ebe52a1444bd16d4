-- What each operation keeps of a link.
use Rattle.std.proofs.Common.{◌≡◌, ◌≤◌, ◌<◌, ◌+◌, ◌-◌, ℕ, Bool, true, false, cond, Option, Some, None, is_some, inl, inr, sym, ◌∙◌, ap, subst, refl}
use Rattle.std.proofs.Common.{arith, nat_le, length, length-take}
use Rattle.std.proofs.lemmas.Bool.Decides.{nat_tests}
use Rattle.std.proofs.lemmas.Cmp.{nat_cmp_total}
use Rattle.std.proofs.lemmas.Map.Lookups.{exact_unsigned}
use Rattle.pfl_edits.specs.Maps as maps
use Rattle.pfl_edits.specs.Maps.{set_at}
use Rattle.pfl_edits.proofs.ForCallers.{len-insert, len-remove, get-set_at_cases, set_at-same, some_is_none}
use Rattle.pfl_link.specs.declared.fault.LinkFault.TheVariants.{LinkFull, CountFull}
use Rattle.pfl_link.specs.Links.{Link, InFlight, IsLink, cut_to}
use Rattle.pfl_link.specs.LinkEdits.{with_place}
use Rattle.pfl_link.specs.Faults.{room_fault}

neither : (a b : Bool) → cond a (Some LinkFull) (cond b (Some CountFull) None) ≡ None → (a ≡ false) × (b ≡ false)
neither true b e = absurd (some_is_none LinkFull e)
neither false true e = absurd (some_is_none CountFull e)
neither false false e = (refl, refl)

above : (m n : ℕ) → nat_le m n ≡ false → n < m
above m n e = grind (arith, nat_tests)

-- a link with room for a frame has fewer than its limit
pub has_room : (l : Link) → room_fault l ≡ None → maps.len l.frames < l.limit
has_room l free = above _ _ (neither _ _ free).0

-- and a ticket for it
pub has_ticket : (l : Link) → room_fault l ≡ None → l.next < 4294967295
has_ticket l free = above _ _ (neither _ _ free).1

-- nothing stands under the next ticket
pub next_free : (l : Link) → IsLink l → maps.get l.frames l.next ≡ None
next_free l is = through (maps.get l.frames l.next) refl
  where
    through : (o : Option InFlight) → maps.get l.frames l.next ≡ o → maps.get l.frames l.next ≡ None
    through None e = e
    through (Some f) e = let low = is.below l.next f e in absurd (omega arith)

-- the frame that is found is the one that was set
as_short : {n : ℕ} (f g : InFlight) → Some f ≡ Some g → length f.bytes ≤ n → length g.bytes ≤ n
as_short {n = n} f g is short = let same : f ≡ g = cc in subst (λ (h : InFlight). length h.bytes ≤ n) same short

module _ (l : Link) (is : IsLink l) where
  -- a frame that is sent
  pub sent_kept : (f : InFlight) → room_fault l ≡ None → length f.bytes ≤ l.mtu → IsLink (with_place l.next (Some f) (l.next + 1) l)
  sent_kept f free short = record {
    few = rw (len-insert nat_cmp_total l.frames l.next f) (at_most (is_some (maps.get l.frames l.next)) (has_room l free));
    below = λ q g found. elim (get-set_at_cases nat_cmp_total exact_unsigned l.frames l.next (Some f) q g found) [
      | inl here ↦ let same = here.0 in omega (arith, same)
      | inr there ↦ let low = is.below q g there.1 in omega (arith, low)
    ];
    short = λ q g found. elim (get-set_at_cases nat_cmp_total exact_unsigned l.frames l.next (Some f) q g found) [
      | inl here ↦ as_short f g here.1 short
      | inr there ↦ is.short q g there.1
    ];
    countable = let low = has_ticket l free in omega (arith, low);
  }
    where
      at_most : (b : Bool) {n m : ℕ} → n < m → cond b n (n + 1) ≤ m
      at_most true h = omega arith
      at_most false h = omega arith

  -- a frame that is taken
  pub taken_kept : (ticket : ℕ) → IsLink (with_place ticket None l.next l)
  taken_kept ticket = record {
    few = rw (len-remove nat_cmp_total l.frames ticket) (at_most (is_some (maps.get l.frames ticket)) is.few);
    below = λ q g found. elim (get-set_at_cases nat_cmp_total exact_unsigned l.frames ticket None q g found) [
      | inl here ↦ absurd (some_is_none g (sym here.1))
      | inr there ↦ is.below q g there.1
    ];
    short = λ q g found. elim (get-set_at_cases nat_cmp_total exact_unsigned l.frames ticket None q g found) [
      | inl here ↦ absurd (some_is_none g (sym here.1))
      | inr there ↦ is.short q g there.1
    ];
    countable = is.countable;
  }
    where
      at_most : (b : Bool) {n m : ℕ} → n ≤ m → cond b (n - 1) n ≤ m
      at_most true h = omega arith
      at_most false h = h

  -- a frame that is cut is no longer than it was
  pub cut_kept : (ticket : ℕ) (f : InFlight) (n : ℕ) → maps.get l.frames ticket ≡ Some f → IsLink (with_place ticket (Some (cut_to f n)) l.next l)
  cut_kept ticket f n stood = record {
    few = rw (len-insert nat_cmp_total l.frames ticket (cut_to f n)
        ∙ ap (λ (o : Option InFlight). cond (is_some o) (maps.len l.frames) (maps.len l.frames + 1)) stood) is.few;
    below = λ q h found. elim (get-set_at_cases nat_cmp_total exact_unsigned l.frames ticket (Some (cut_to f n)) q h found) [
      | inl here ↦ is.below q f (ap (maps.get l.frames) here.0 ∙ stood)
      | inr there ↦ is.below q h there.1
    ];
    short = λ q h found. elim (get-set_at_cases nat_cmp_total exact_unsigned l.frames ticket (Some (cut_to f n)) q h found) [
      | inl here ↦ as_short (cut_to f n) h here.1 (let was = is.short ticket f stood in omega (arith, was, length-take n f.bytes))
      | inr there ↦ is.short q h there.1
    ];
    countable = is.countable;
  }

-- to take what does not stand there changes nothing
pub nothing_taken : (l : Link) (ticket next : ℕ) → next ≡ l.next → None ≡ maps.get l.frames ticket → with_place ticket None next l ≡ l
nothing_taken l ticket next same none =
    λ i. record { limit = l.limit; mtu = l.mtu; next = same i; frames = set_at-same nat_cmp_total exact_unsigned l.frames ticket None (sym none) i }
