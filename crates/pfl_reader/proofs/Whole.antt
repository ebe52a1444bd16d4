-- A line that lies whole in a block is taken at once.
use Rattle.std.proofs.Common.{◌≡◌, ◌≢◌, ℕ, zero, suc, ◌<◌, ◌≤◌, ◌+◌, ◌-◌, Bool, true, false, List, [], ◌∷◌, ◌++◌, length, take, drop, get_or, refl}
use Rattle.std.proofs.Common.{sym, ◌∙◌, ap, subst, arith, cond, inl, inr, Option, Some, None, eqb}
use Rattle.std.proofs.lemmas.Bool.{ne_eqb}
use Rattle.std.proofs.lemmas.Bool.Decides.{eqb_tells}
use Rattle.std.proofs.lemmas.List.{drop-take, drop-drop, take-take, take_min, length-take}
use Rattle.std.specs.Io.KnownBytes.{prepend_known}
use Rattle.std.specs.Prelude.{◌&&◌, min, nat_lt, slice_range}
use Rattle.pfl_reader.specs.Lines.{lines_of, with_first}
use Rattle.pfl_reader.specs.Scans.{TakesLine, ReadsLine, head_of}
use Rattle.pfl_reader.specs.inner.Feeds.{cut}

-- a LF, and before it one byte that is none
lines_of-two : (b : ℕ) (bytes : List ℕ) → b ≢ 10 → lines_of (b ∷ 10 ∷ bytes) ≡ cut (b ∷ []) ∷ lines_of bytes
lines_of-two b bytes h = elim (eqb_tells b 13) [
  | inl e ↦ rw (ne_eqb b 10 h, e.0) refl
  | inr e ↦ rw (ne_eqb b 10 h, e.0) refl
]

-- a byte is one of the line, if no LF is after it
not-ended : (p q : Bool) (b : ℕ) (lines : List (List ℕ)) → q ≡ false → cond (p && q) lines (with_first b lines) ≡ with_first b lines
not-ended true q b lines e = rw e refl
not-ended false q b lines e = refl

-- a byte before another that is no LF is one of the line
lines_of-more : (b c : ℕ) (body bytes : List ℕ) (lines : List (List ℕ)) → b ≢ 10 → c ≢ 10 → lines_of (c ∷ bytes) ≡ cut (c ∷ body) ∷ lines →
    lines_of (b ∷ c ∷ bytes) ≡ cut (b ∷ c ∷ body) ∷ lines
lines_of-more b c body bytes lines h i e =
    rw (ne_eqb b 10 h) (not-ended (eqb b 13) (eqb c 10) b (lines_of (c ∷ bytes)) (ne_eqb c 10 i) ∙ ap (with_first b) e)

-- the first LF ends a line
lines_of-found : (s : List ℕ) (k : ℕ) (rest : List ℕ) → k < length s → get_or s k 0 ≡ 10 → ((j : ℕ) → j < k → get_or s j 0 ≢ 10) →
    lines_of (s ++ rest) ≡ cut (take k s) ∷ lines_of (drop (suc k) s ++ rest)
lines_of-found [] k rest within at before = absurd (omega arith)
lines_of-found (b ∷ s) zero rest within at before = rw at refl
lines_of-found (b ∷ []) (suc k) rest within at before = absurd (omega arith)
lines_of-found (b ∷ c ∷ s) (suc zero) rest within at before = rw at (lines_of-two b (s ++ rest) (before 0 (omega arith)))
lines_of-found (b ∷ c ∷ s) (suc (suc k)) rest within at before =
    lines_of-more b c (take k s) (s ++ rest) _ (before 0 (omega arith)) (before 1 (omega arith))
    (lines_of-found (c ∷ s) (suc k) rest (omega arith) at (λ j l. before (suc j) (omega arith)))

-- a line of known bytes that ends in the block
TakesLine-found : (s : List ℕ) (k : ℕ) (rest : Option (List ℕ)) → k < length s → get_or s k 0 ≡ 10 → ((j : ℕ) → j < k → get_or s j 0 ≢ 10) →
    TakesLine (prepend_known s rest) (prepend_known (drop (suc k) s) rest) (cut (take k s))
TakesLine-found s k None within at before = tt
TakesLine-found s k (Some rest) within at before = lines_of-found s k rest within at before

-- a byte of what waits stands before its end
pub waits-within : (block : List ℕ) (start end k : ℕ) → k < length (slice_range block start end) → start + k + 1 ≤ end
waits-within block start end k within = omega (arith, within, length-take (end - start) (drop start block))

-- what waits after the first bytes
waits-behind : (block : List ℕ) (start end k : ℕ) → start + k + 1 ≤ end → drop (suc k) (slice_range block start end) ≡ slice_range block (start + k + 1) end
waits-behind block start end k within =
    let parts : end - start ≡ suc k + (end - (start + k + 1)) = omega arith in
    let place : start + suc k ≡ start + k + 1 = omega arith in
    rw (parts, drop-take (suc k) (end - (start + k + 1)) (drop start block), drop-drop (suc k) start block, place) refl

-- the first bytes of what waits
waits-before : (block : List ℕ) (start end k n : ℕ) → n ≤ k → start + k ≤ end
    → take n (take k (slice_range block start end)) ≡ slice_range block start (start + n)
waits-before block start end k n less within =
    let parts : (start + n) - start ≡ n = omega arith in
    rw (take-take n k (slice_range block start end) less, take-take n (end - start) (drop start block) (omega arith), parts) refl

-- a line of known bytes that ends in the block, by its places
pub TakesLine-whole : (block : List ℕ) (start end k n : ℕ) (rest : Option (List ℕ)) →
    k < length (slice_range block start end) → n ≤ length (take k (slice_range block start end)) →
    get_or (slice_range block start end) k 0 ≡ 10 → ((j : ℕ) → j < k → get_or (slice_range block start end) j 0 ≢ 10) →
    take n (take k (slice_range block start end)) ≡ cut (take k (slice_range block start end)) →
    TakesLine (prepend_known (slice_range block start end) rest) (prepend_known (slice_range block (start + k + 1) end) rest)
    (slice_range block start (start + n))
TakesLine-whole block start end k n rest within few at before body =
    let fits : start + k + 1 ≤ end = waits-within block start end k within in
    let less : n ≤ k = omega (arith, few, length-take k (slice_range block start end)) in
    let behind = waits-behind block start end k fits in
    let front : slice_range block start (start + n) ≡ cut (take k (slice_range block start end)) =
    sym (waits-before block start end k n less (omega arith)) ∙ body in
    rw (front, ← behind) (TakesLine-found (slice_range block start end) k rest within at before)

-- a CR that stands last is cut off, by the bytes before it
cut-ended : (b : ℕ) (bytes : List ℕ) → get_or (b ∷ bytes) (length bytes) 0 ≡ 13 → take (length bytes) (b ∷ bytes) ≡ cut (b ∷ bytes)
cut-ended b [] at = rw at refl
cut-ended b (c ∷ bytes) at = ap (λ (l : List ℕ). b ∷ l) (cut-ended c bytes at)

-- another byte that stands last stays, by the bytes before it
cut-plain : (b : ℕ) (bytes : List ℕ) → get_or (b ∷ bytes) (length bytes) 0 ≢ 13 → b ∷ bytes ≡ cut (b ∷ bytes)
cut-plain b [] at = rw (ne_eqb b 13 at) refl
cut-plain b (c ∷ bytes) at = ap (λ (l : List ℕ). b ∷ l) (cut-plain c bytes at)

-- the place before the last one
last-place : (b : ℕ) (bytes : List ℕ) → length (b ∷ bytes) - 1 ≡ length bytes
last-place b bytes = omega arith

-- a CR that stands last is cut off
pub cut-last : (bytes : List ℕ) → 0 < length bytes → get_or bytes (length bytes - 1) 0 ≡ 13 → take (length bytes - 1) bytes ≡ cut bytes
cut-last [] some at = absurd (omega arith)
cut-last (b ∷ bytes) some at =
    rw (last-place b bytes) (cut-ended b bytes (subst (λ (n : ℕ). get_or (b ∷ bytes) n 0 ≡ 13) (last-place b bytes) at))

-- another byte that stands last stays
pub cut-none : (bytes : List ℕ) → 0 < length bytes → get_or bytes (length bytes - 1) 0 ≢ 13 → bytes ≡ cut bytes
cut-none [] some at = absurd (omega arith)
cut-none (b ∷ bytes) some at = cut-plain b bytes (subst (λ (n : ℕ). get_or (b ∷ bytes) n 0 ≢ 13) (last-place b bytes) at)

-- of nothing nothing is cut off
pub cut-empty : (bytes : List ℕ) → length bytes ≤ 0 → bytes ≡ cut bytes
cut-empty [] none = refl
cut-empty (b ∷ bytes) none = absurd (omega arith)

-- this is kept of a line that lay whole in the block
pub ReadsLine-whole : (block : List ℕ) (from to n : ℕ) (old new : Option (List ℕ)) → n ≡ min (length (slice_range block from to)) 512 →
    TakesLine old new (slice_range block from to) →
    ReadsLine (record {
      bytes = slice_range block from (from + n);
      long = nat_lt 512 (length (slice_range block from to));
      head = head_of (slice_range block from to);
    }) old new
ReadsLine-whole block from to n old new few takes =
    let body = slice_range block from to in
    let parts : (from + n) - from ≡ n = omega arith in
    let least : n ≡ min 512 (length body) = omega (arith, few) in
    let less : n ≤ to - from = omega (arith, few, length-take (to - from) (drop from block)) in
    let bytes : slice_range block from (from + n) ≡ take 512 body =
    rw parts (sym (take-take n (to - from) (drop from block) less) ∙ ap (λ (m : ℕ). take m body) least ∙ take_min 512 body) in
    record { body = body; keeps = record { bytes = bytes; long = refl; head = refl }; takes = takes }
