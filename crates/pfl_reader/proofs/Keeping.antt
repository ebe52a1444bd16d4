-- What is kept of a line stays right from byte to byte.
use Rattle.std.proofs.Common.{◌≡◌, ◌≢◌, ℕ, ◌<◌, ◌≤◌, Bool, true, false, List, [], ◌∷◌, ◌++◌, length, take, refl, sym, ap, arith, length-append, inl, inr, cond}
use Rattle.std.specs.Prelude.{nat_lt}
use Rattle.std.proofs.lemmas.Bool.{lt-ltb, le-ltb, cases_lt}
use Rattle.std.proofs.lemmas.Bool.Decides.{eqb_tells, nat_tests}
use Rattle.std.proofs.lemmas.List.{take-append-le, take_all, length-take, append-nil}
use Rattle.pfl_reader.specs.declared.head.Head.{Head}
use Rattle.pfl_reader.specs.Scans.{Keeps, head_from, head_after}
use Rattle.pfl_reader.specs.inner.Scans.{Carried, added, kept, nothing, pushed, settled, counted}
use Rattle.pfl_reader.proofs.Scans.{carriage_of}

-- the head of a line with one more byte
head_from-push : (h : Head) (line : List ℕ) (b : ℕ) → head_from h (line ++ b ∷ []) ≡ head_after (head_from h line) b
head_from-push h [] b = refl
head_from-push h (x ∷ line) b = head_from-push (head_after h x) line b

-- the first n bytes of a line that has room for one more
take-push-below : (n : ℕ) (line : List ℕ) (b : ℕ) → length line < n →
    cond (nat_lt (length (take n line)) n) (take n line ++ b ∷ []) (take n line) ≡ take n (line ++ b ∷ [])
take-push-below n line b h =
    let all : take n line ≡ line = take_all n line (omega arith) in
    let most : length (line ++ b ∷ []) ≤ n = omega (arith, length-append line (b ∷ [])) in
    rw (all, lt-ltb (length line) n h, take_all n (line ++ b ∷ []) most) refl

-- the first n bytes of a line that has them
take-push-above : (n : ℕ) (line : List ℕ) (b : ℕ) → n ≤ length line →
    cond (nat_lt (length (take n line)) n) (take n line ++ b ∷ []) (take n line) ≡ take n (line ++ b ∷ [])
take-push-above n line b h =
    let full : n ≤ length (take n line) = omega (arith, length-take n line) in
    rw (le-ltb (length (take n line)) n full, take-append-le n line (b ∷ []) h) refl

-- the first n bytes of a line with one more byte
take-push : (n : ℕ) (line : List ℕ) (b : ℕ) →
    cond (nat_lt (length (take n line)) n) (take n line ++ b ∷ []) (take n line) ≡ take n (line ++ b ∷ [])
take-push n line b = elim (cases_lt (length line) n) [ inl h ↦ take-push-below n line b h | inr h ↦ take-push-above n line b h ]

-- whether a line with one more byte has more than n
long-push : (n : ℕ) (line : List ℕ) (b : ℕ) →
    cond (nat_lt (length (take n line)) n) (nat_lt n (length line)) true ≡ nat_lt n (length (line ++ b ∷ []))
long-push n line b = grind (arith, nat_tests, length-take n line, length-append line (b ∷ []))

-- what is kept stays right by one more byte
pub Keeps-pushed : (k : Carried) (body : List ℕ) (b : ℕ) → Keeps (kept k) body → Keeps (kept (pushed k b)) (body ++ b ∷ [])
Keeps-pushed k body b h = record {
  bytes = rw h.bytes (take-push 512 body b);
  long = rw (h.bytes, h.long) (long-push 512 body b);
  head = rw h.head (sym (head_from-push _ body b));
}

-- what is kept stays right once the CR that came last, if there was one, is counted
Keeps-carriage : (k : Carried) (body : List ℕ) (carriage : Bool) → Keeps (kept k) body
    → Keeps (kept (cond carriage (counted k) k)) (body ++ carriage_of carriage)
Keeps-carriage k body true h =
    let more = Keeps-pushed k body 13 h in
    record { bytes = more.bytes; long = more.long; head = more.head }
Keeps-carriage k body false h = rw append-nil h

-- what is kept stays right once the CR that came last is counted
pub Keeps-settled : (k : Carried) (body : List ℕ) → Keeps (kept k) body → Keeps (kept (settled k)) (body ++ carriage_of k.carriage)
Keeps-settled k body h = Keeps-carriage k body k.carriage h

-- one more byte leaves something of a line
pushed-some : (k : Carried) (b : ℕ) → pushed k b ≢ nothing
pushed-some k b none =
    let bytes : cond (nat_lt (length k.bytes) 512) (k.bytes ++ b ∷ []) k.bytes ≡ [] = ap (λ (j : Carried). j.bytes) none in
    let long : cond (nat_lt (length k.bytes) 512) k.long true ≡ false = ap (λ (j : Carried). j.long) none in
    elim (cases_lt (length k.bytes) 512) [
      | inl room ↦ let all : k.bytes ++ b ∷ [] ≡ [] = rw (lt-ltb (length k.bytes) 512 room) at bytes in
          omega (arith, ap length all, length-append k.bytes (b ∷ []))
      | inr full ↦ let h : true ≡ false = rw (le-ltb (length k.bytes) 512 full) at long in cc
    ]

-- ... a CR too
pub added-some : (k : Carried) (b : ℕ) → added k b ≢ nothing
added-some k b none = elim (eqb_tells b 13) [
  | inl e ↦ let h = rw e.0 at none in let last : true ≡ false = ap (λ (j : Carried). j.carriage) h in cc
  | inr e ↦ let h = rw e.0 at none in pushed-some (settled k) b h
]
