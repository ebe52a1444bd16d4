-- Turns are counted as the device counts its calls.
use Rattle.std.proofs.Common.{◌≡◌, ℕ, ◌+◌, ◌-◌, ◌<◌, ◌^◌, ◌∙◌, refl, sym, subst, arith, Option, Some, None}
use Rattle.pfl_base.specs.Counts.{Calls, Counts, Grows}
use Rattle.pfl_reader.specs.Readers.{Source, CountsTurns}

-- no call
Grows-none : (a : Option ℕ) (n : ℕ) → n ≡ 0 → Grows a a n
Grows-none None n e = tt
Grows-none (Some x) n e = λ fits. omega (arith, e)

pub Counts-none : (a : Calls) (n : ℕ) → n ≡ 0 → Counts a a n
Counts-none a n e = record { made = Grows-none a.made n e; same = refl }

-- calls, and then more
Grows-then : (a b c : Option ℕ) (m n k : ℕ) → k ≡ m + n → Grows a b m → Grows b c n → Grows a c k
Grows-then None b c m n k e h i = tt
Grows-then (Some x) None c m n k e h i = absurd h
Grows-then (Some x) (Some y) None m n k e h i = absurd i
Grows-then (Some x) (Some y) (Some z) m n k e h i = λ fits.
    let low : x + m < 2 ^ 64 = omega (arith, e, fits) in
    let mid : y ≡ x + m = h low in
    let high : y + n < 2 ^ 64 = omega (arith, e, fits, mid) in
    let end : z ≡ y + n = i high in
    omega (arith, e, mid, end)

pub Counts-then : (a b c : Calls) (m n k : ℕ) → k ≡ m + n → Counts a b m → Counts b c n → Counts a c k
Counts-then a b c m n k e h i = record {
  made = Grows-then a.made b.made c.made m n k e h.made i.made;
  same = i.same ∙ h.same;
}

-- no turn
pub CountsTurns-none : (s t : Source) → t.turns ≡ s.turns → t.reads ≡ s.reads → CountsTurns s t
CountsTurns-none s t e r = record {
  more = omega (arith, e);
  reads = subst (λ (o : Calls). Counts s.reads o (t.turns - s.turns)) (sym r) (Counts-none s.reads (t.turns - s.turns) (omega (arith, e)));
}

-- turns, and then more
pub CountsTurns-then : (s t u : Source) → CountsTurns s t → CountsTurns t u → CountsTurns s u
CountsTurns-then s t u h i = record {
  more = omega (arith, h.more, i.more);
  reads = Counts-then s.reads t.reads u.reads (t.turns - s.turns) (u.turns - t.turns) (u.turns - s.turns) (omega (arith, h.more, i.more)) h.reads i.reads;
}

-- no turn of a run yet
pub Counts-begun : (old begun : Source) → begun.turns ≡ 0 → begun.reads ≡ old.reads → Counts old.reads begun.reads begun.turns
Counts-begun old begun e r = subst (λ (o : Calls). Counts old.reads o begun.turns) (sym r) (Counts-none old.reads begun.turns e)

-- the turns of a run after more
pub Counts-more : (old mid new : Source) → Counts old.reads mid.reads mid.turns → CountsTurns mid new → Counts old.reads new.reads new.turns
Counts-more old mid new h i = Counts-then old.reads mid.reads new.reads mid.turns (new.turns - mid.turns) new.turns (omega (arith, i.more)) h i.reads
