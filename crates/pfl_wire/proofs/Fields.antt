-- A field that is read is the field that was written, and what was written is read again: numbers and pads.
use Rattle.std.proofs.Common.{◌≡◌, T, ℕ, zero, suc, ◌+◌, ◌*◌, ◌^◌, ◌<◌, ◌≤◌, ◌/◌, ◌%◌, Bool, true, false, cond, ltb, List, [], ◌∷◌, ◌++◌, length}
use Rattle.std.proofs.Common.{get_or, take, drop, Result, Ok, Err, refl, sym, ap, subst, ◌∙◌, append_assoc, arith}
use Rattle.std.specs.Prelude.{replicate, ◌==◌, ◌&&◌}
use Rattle.std.specs.List.{list_all}
use Rattle.std.specs.Int.{byte_at as byte_of, bytes_high_first}
use Rattle.std.proofs.lemmas.Bool.{eqb-true, ltb-false, le-ltb}
use Rattle.std.proofs.lemmas.List.{take_at, drop_at, take-append-drop, length-append, length-take-le, length-replicate, get_or-drop}
use Rattle.std.proofs.Math.Nat.{pow-succ', mod-eq_of_lt, div-eq_of_lt, one-le-pow, mul_assoc, add-mul-div_right, zero-add}
use Rattle.byteorder.specs.Endian.{big_number, big_from}
use Rattle.byteorder.specs.Numbers.{big_from-cons, big_from-lt, big_number-reads_back, length-bytes_high_first}
use Rattle.pfl_wire.specs.declared.fault.BadFrame.{BadFrame}
use Rattle.pfl_wire.specs.declared.fault.BadFrame.TheVariants as bad
use Rattle.pfl_wire.specs.Spelling.{number_bytes}
use Rattle.pfl_wire.specs.Fields.{◌>>=◌, wanted, byte_at, number_at, pads_at}

abbrev pub IsBytes : List ℕ → Type 0
IsBytes bytes = (i : ℕ) → get_or bytes i 0 < 256

pub IsBytes-drop : (n : ℕ) (bytes : List ℕ) → IsBytes bytes → IsBytes (drop n bytes)
IsBytes-drop n bytes h i = rw get_or-drop (h (n + i))

pub IsBytes-rest : (b : ℕ) (bytes : List ℕ) → IsBytes (b ∷ bytes) → IsBytes bytes
IsBytes-rest b bytes h i = h (suc i)

-- the value of a step that did not fail, with what follows as a function of it: its variables keep the proof small where steps are many
pub bind_then : {A B P : Type 0} (r : Result A BadFrame) (f : A → Result B BadFrame) (y : B) → (r >>= f) ≡ Ok y → ((x : A) → r ≡ Ok x → f x ≡ Ok y → P) → P
bind_then (Ok x) f y e next = next x refl e
bind_then (Err d) f y e next = absurd cc

-- a test that did not fail
pub guard_ok : {A : Type 0} (b : Bool) (d : BadFrame) (x : Result A BadFrame) (y : A) → cond b (Err d) x ≡ Ok y → (b ≡ false) × (x ≡ Ok y)
guard_ok true d x y e = absurd cc
guard_ok false d x y e = (refl, e)

pub kept_ok : {A : Type 0} (b : Bool) (d : BadFrame) (x y : A) → cond b (Ok x) (Err d) ≡ Ok y → (b ≡ true) × (x ≡ y)
kept_ok true d x y e = (refl, cc)
kept_ok false d x y e = absurd cc

pub wanted_ok : (b : Bool) (d : BadFrame) (x : Unit {0}) → wanted b d ≡ Ok x → b ≡ true
wanted_ok true d x e = refl
wanted_ok false d x e = absurd cc

abbrev done : {A : Type 0} → A → Result A BadFrame
done x = Ok x

pub ok_is : {A : Type 0} (x y : A) → done x ≡ done y → x ≡ y
ok_is x y e = cc

-- what a reader took from the front
pub record Takes (bytes text rest : List ℕ) : Type 0 where
  pub parts : bytes ≡ text ++ rest
  pub rest_fits : IsBytes rest

pub Takes-then : (a x b y c : List ℕ) → Takes a x b → Takes b y c → Takes a (x ++ y) c
Takes-then a x b y c p q = record { parts = p.parts ∙ ap (λ (t : List ℕ). x ++ t) q.parts ∙ sym (append_assoc x y c); rest_fits = q.rest_fits }

-- ---- bytes

pub byte_takes : (bytes : List ℕ) (x : ℕ × List ℕ) → IsBytes bytes → byte_at bytes ≡ Ok x → Takes bytes (x.0 ∷ []) x.1 × (x.0 < 256)
byte_takes [] x fits e = absurd cc
byte_takes (b ∷ bytes) x fits e =
    subst (λ (y : ℕ × List ℕ). Takes (b ∷ bytes) (y.0 ∷ []) y.1
    × (y.0 < 256)) (ok_is (b, bytes) x e) (record { parts = refl; rest_fits = IsBytes-rest b bytes fits }, fits 0)

-- ---- numbers

pub length-number_bytes : (k n : ℕ) → length (number_bytes k n) ≡ k
unfolding number_bytes
length-number_bytes k n = length-bytes_high_first k n

byte_of-pow : (k x : ℕ) → byte_of k x ≡ x / 256 ^ k % 256
byte_of-pow zero x = omega arith
byte_of-pow (suc k) x = refl

some : (k : ℕ) → 0 < 256 ^ k
some k = let h = one-le-pow k 256 (omega arith) in omega arith

-- what lies above the place of the bytes does not matter
bytes_above : (k m x : ℕ) → bytes_high_first k (x + m * 256 ^ k) ≡ bytes_high_first k x
bytes_above zero m x = refl
bytes_above (suc k) m x =
    let moved : x + m * 256 ^ suc k ≡ x + m * 256 * 256 ^ k =
    ap (λ (p : ℕ). x + p) (ap (λ (p : ℕ). m * p) (pow-succ' 256 k) ∙ sym (mul_assoc m 256 (256 ^ k))) in
    let first : byte_of k (x + m * 256 * 256 ^ k) ≡ byte_of k x =
    byte_of-pow k (x + m * 256 * 256 ^ k) ∙ ap (λ (y : ℕ). y % 256) (add-mul-div_right x (m * 256) (some k)) ∙ mod_shift (x / 256 ^ k) m
    ∙ sym (byte_of-pow k x) in
    ap (bytes_high_first (suc k)) moved ∙ rw (first, bytes_above k (m * 256) x) refl
  where
    mod_shift : (y m : ℕ) → (y + m * 256) % 256 ≡ y % 256
    mod_shift y m = omega arith

-- the bytes of the number that bytes make are those bytes
pub bytes-of-number : (k : ℕ) (bytes : List ℕ) → IsBytes bytes → k ≤ length bytes → bytes_high_first k (big_from 0 k bytes) ≡ take k bytes
bytes-of-number zero bytes fits h = refl
bytes-of-number (suc k) [] fits h = absurd (omega arith)
bytes-of-number (suc k) (b ∷ bytes) fits h =
    let rest_fits = IsBytes-rest b bytes fits in
    let low = big_from-lt 0 k bytes rest_fits in
    let byte : b < 256 = fits 0 in
    let moved : b * 256 ^ k + big_from 1 k (b ∷ bytes) ≡ big_from 0 k bytes + b * 256 ^ k = omega (arith, big_from-cons 0 k b bytes) in
    let top : (big_from 0 k bytes + b * 256 ^ k) / 256 ^ k ≡ b = add-mul-div_right (big_from 0 k bytes) b (some k)
    ∙ ap (λ (y : ℕ). y + b) (div-eq_of_lt low) ∙ zero-add b in
    let first : byte_of k (big_from 0 k bytes + b * 256 ^ k) ≡ b = byte_of-pow k _ ∙ ap (λ (y : ℕ). y % 256) top ∙ mod-eq_of_lt byte in
    let others : bytes_high_first k (big_from 0 k bytes + b * 256 ^ k) ≡ take k bytes = bytes_above k b (big_from 0 k bytes)
    ∙ bytes-of-number k bytes rest_fits (omega arith) in
    ap (bytes_high_first (suc k)) moved ∙ rw (first, others) refl

pub number_takes : (k : ℕ) (bytes : List ℕ) (x : ℕ × List ℕ) → IsBytes bytes → number_at k bytes ≡ Ok x → Takes bytes (number_bytes k x.0) x.1 × (x.0 < 256 ^ k)
unfolding number_at number_bytes
number_takes k bytes x fits e =
    let g = guard_ok (ltb (length bytes) k) bad.Value (Ok (big_number k bytes, drop k bytes)) x e in
    let long : k ≤ length bytes = ltb-false _ _ g.0 in
    let front : bytes_high_first k (big_from 0 k bytes) ≡ take k bytes = bytes-of-number k bytes fits long in
    subst (λ (y : ℕ × List ℕ). Takes bytes (bytes_high_first k y.0) y.1 × (y.0 < 256 ^ k)) (ok_is (big_number k bytes, drop k bytes) x g.1)
    (record { parts = rw front (sym (take-append-drop k bytes)); rest_fits = IsBytes-drop k bytes fits }, big_from-lt 0 k bytes fits)

pub number_again : (k n : ℕ) (rest : List ℕ) → n < 256 ^ k → number_at k (number_bytes k n ++ rest) ≡ Ok (n, rest)
unfolding number_at number_bytes
number_again k n rest lt =
    let len = length-bytes_high_first k n in
    let long : ltb (length (bytes_high_first k n ++ rest)) k ≡ false = le-ltb _ _ (omega (arith, length-append (bytes_high_first k n) rest)) in
    rw (long, drop_at (bytes_high_first k n) rest k len, big_number-reads_back k n rest lt) refl

-- ---- pads

pub both_true : (a b : Bool) → a && b ≡ true → (a ≡ true) × (b ≡ true)
both_true true b e = (refl, e)
both_true false b e = absurd (subst T (sym e) tt)

zeros : (xs : List ℕ) → list_all (λ b. b == 0) xs ≡ true → xs ≡ replicate (length xs) 0
zeros [] e = refl
zeros (x ∷ xs) e =
    let h = both_true (x == 0) (list_all (λ b. b == 0) xs) e in
    let first : x ≡ 0 = eqb-true x 0 h.0 in
    rw first (ap (λ (t : List ℕ). 0 ∷ t) (zeros xs h.1))

all_zero : (k : ℕ) → list_all (λ b. b == 0) (replicate k 0) ≡ true
all_zero zero = refl
all_zero (suc k) = all_zero k

pub pads_take : (k : ℕ) (bytes rest : List ℕ) → IsBytes bytes → pads_at k bytes ≡ Ok rest → Takes bytes (replicate k 0) rest
unfolding pads_at
pads_take k bytes rest fits e =
    let g = guard_ok (ltb (length bytes) k) bad.Value (cond (list_all (λ b. b == 0) (take k bytes)) (Ok (drop k bytes)) (Err bad.Value)) rest e in
    let long : k ≤ length bytes = ltb-false _ _ g.0 in
    let h = kept_ok (list_all (λ b. b == 0) (take k bytes)) bad.Value (drop k bytes) rest g.1 in
    let front : take k bytes ≡ replicate k 0 = zeros (take k bytes) h.0 ∙ ap (λ (n : ℕ). replicate n 0) (length-take-le k bytes long) in
    subst (λ (r : List ℕ). Takes bytes (replicate k 0) r) h.1
    (record { parts = rw (← front) (sym (take-append-drop k bytes)); rest_fits = IsBytes-drop k bytes fits })

zeros_len : (k : ℕ) → length {A = ℕ} (replicate {A = ℕ} k 0) ≡ k
zeros_len k = length-replicate k 0

pub pads_again : (k : ℕ) (rest : List ℕ) → pads_at k (replicate k 0 ++ rest) ≡ Ok rest
unfolding pads_at
pads_again k rest =
    let len = zeros_len k in
    let long : ltb (length {A = ℕ} (replicate {A = ℕ} k 0 ++ rest)) k ≡ false =
    le-ltb _ _ (omega (arith, length-append (replicate {A = ℕ} k 0) rest, zeros_len k)) in
    rw (long, take_at (replicate k 0) rest k len, drop_at (replicate k 0) rest k len, all_zero k) refl
