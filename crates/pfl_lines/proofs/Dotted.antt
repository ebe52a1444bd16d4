-- An IPv4 address that is read one number after another is the one that is cut at its dots, and at its colon, first.
use Rattle.std.proofs.Common.{◌≡◌, ◌∙◌, ℕ, ◌+◌, ◌*◌, true, false, List, [], ◌∷◌, Result, Ok, Err, refl, sym, ap, eqb-true}
use Rattle.std.specs.Prelude.{nat_le, ◌==◌, ◌&&◌, if◌then◌else◌}
use Rattle.std.specs.List.{list_all}
use Rattle.pfl_base.specs.declared.addr.Addr.TheVariants.{V4}
use Rattle.pfl_base.specs.declared.addr.End.{End}
use Rattle.pfl_lines.specs.declared.fault.LineFault.{LineFault}
use Rattle.pfl_lines.specs.declared.fault.LineFault.TheVariants.{Number}
use Rattle.pfl_lines.specs.Addresses.{v4_of, v4_end}
use Rattle.pfl_lines.specs.Numbers.{is_digit, value_after, number_of, cut_at, grown}
use Rattle.pfl_lines.specs.Readings.{◌>>=◌}
use Rattle.pfl_lines.specs.inner.Numbers.{with_digit, number_before}
use Rattle.pfl_lines.specs.inner.Addresses.{v4_front, v4_read, v4_end_read}
use Rattle.pfl_lines.proofs.Before.{IsNumber, said, said_before, join, chosen_fault, digit_fault, cut_fault, before_at, no_digit, first_byte, first_none}

-- two readings of one fault, in either order
swap : {X Y Z : Type 0} (a : Result X LineFault) (b : Result Y LineFault) (f : X → Y → Result Z LineFault) → IsNumber a → IsNumber b
    → (a >>= (λ x. b >>= (λ y. f x y))) ≡ (b >>= (λ y. a >>= (λ x. f x y)))
swap (Ok x) (Ok y) f first second = refl
swap (Ok x) (Err e) f first second = refl
swap (Err e) (Ok y) f first second = refl
swap (Err e) (Err d) f first second = cc

number_fault : (greatest : ℕ) (digits : List ℕ) → IsNumber (number_of greatest digits)
unfolding number_of
number_fault greatest [] = refl
number_fault greatest (b ∷ digits) = chosen_fault (list_all is_digit (b ∷ digits) && nat_le (value_after 0 (b ∷ digits)) greatest) (value_after 0 (b ∷ digits))

-- ---- an address

-- each part is read as soon as it is cut off
abbrev parted : List ℕ → Result ℕ LineFault
parted word = do
  a ← cut_at 46 word
  p ← number_of 255 a.0
  b ← cut_at 46 a.1
  q ← number_of 255 b.0
  c ← cut_at 46 b.1
  r ← number_of 255 c.0
  s ← number_of 255 c.1
  Ok (((p * 256 + q) * 256 + r) * 256 + s)

parted_read : (word : List ℕ) → parted word ≡ v4_read word
unfolding v4_read v4_front number_before
parted_read word = simp join

v4_parted : (word : List ℕ) → v4_of word ≡ parted word
unfolding v4_of
v4_parted word =
    let last : (a b c : List ℕ × List ℕ) (p : ℕ)
    → Result ℕ LineFault = λ a b c p. number_of 255 b.0 >>=
    (λ q. number_of 255 c.0 >>= (λ r. number_of 255 c.1 >>= (λ s. Ok (((p * 256 + q) * 256 + r) * 256 + s)))) in
    (λ i. cut_at 46 word >>= (λ a. cut_at 46 a.1 >>= (λ b.
    swap (cut_at 46 b.1) (number_of 255 a.0) (last a b) (cut_fault 46 b.1) (number_fault 255 a.0) i)))
    ∙ (λ i. cut_at 46 word >>= (λ a.
    swap (cut_at 46 a.1) (number_of 255 a.0) (λ b p. cut_at 46 b.1 >>= (λ c. last a b c p)) (cut_fault 46 a.1) (number_fault 255 a.0) i))
    ∙ (λ i. cut_at 46 word >>= (λ a. number_of 255 a.0 >>= (λ p. cut_at 46 a.1 >>= (λ b.
    swap (cut_at 46 b.1) (number_of 255 b.0)
    (λ c q. number_of 255 c.0 >>= (λ r. number_of 255 c.1 >>= (λ s. Ok (((p * 256 + q) * 256 + r) * 256 + s)))) (cut_fault 46 b.1)
    (number_fault 255 b.0) i))))

pub v4_is : (word : List ℕ) → v4_of word ≡ v4_read word
v4_is word = v4_parted word ∙ parted_read word

-- ---- an end

-- a number is read of what stands before the colon
abbrev outer : {Z : Type 0} → (List ℕ → Result (ℕ × List ℕ) LineFault) → (ℕ → List ℕ → List ℕ → Result Z LineFault)
    → Result (List ℕ × List ℕ) LineFault → Result Z LineFault
outer read f parts = parts >>= (λ p. read p.0 >>= (λ a. f a.0 a.1 p.1))

-- what stands after a number is cut at the colon
abbrev inner : {Z : Type 0} → (ℕ → List ℕ → List ℕ → Result Z LineFault) → Result (ℕ × List ℕ) LineFault → Result Z LineFault
inner f read = read >>= (λ a. cut_at 58 a.1 >>= (λ p. f a.0 p.0 p.1))

-- what a reading does at a first byte that is not the colon
grown_on : {Z : Type 0} (b : ℕ) (read : List ℕ → Result (ℕ × List ℕ) LineFault) (digit : Result ℕ LineFault) (f : ℕ → List ℕ → List ℕ → Result Z LineFault)
    → ((x : List ℕ) → read (b ∷ x) ≡ (digit >>= (λ m. said_before 255 m (cut_at 46 x)))) → (parts : Result (List ℕ × List ℕ) LineFault)
    → outer read f (grown (b ∷ []) parts) ≡ (parts >>= (λ p. digit >>= (λ m. said_before 255 m (cut_at 46 p.0) >>= (λ a. f a.0 a.1 p.1))))
grown_on b read digit f on (Ok p) =
    ap (λ r. r >>= (λ a. f a.0 a.1 p.1)) (on p.0) ∙ join digit (λ m. said_before 255 m (cut_at 46 p.0)) (λ a. f a.0 a.1 p.1)
grown_on b read digit f on (Err e) = refl

along : {Z : Type 0} (b : ℕ) (bytes : List ℕ) (read : List ℕ → Result (ℕ × List ℕ) LineFault) (digit : Result ℕ LineFault) (f : ℕ → List ℕ
    → List ℕ → Result Z LineFault)
    → IsNumber digit → ((x : List ℕ) → read (b ∷ x) ≡ (digit >>= (λ m. said_before 255 m (cut_at 46 x)))) → read [] ≡ Err Number
    → ((b == 58) ≡ true → digit ≡ Err Number)
    → ((m : ℕ) → outer (λ x. said_before 255 m (cut_at 46 x)) f (cut_at 58 bytes) ≡ inner f (said_before 255 m (cut_at 46 bytes)))
    → outer read f (cut_at 58 (b ∷ bytes)) ≡ inner f (read (b ∷ bytes))
along b bytes read digit f fault on none stop others =
    elim (b == 58) as (λ t. (b == 58) ≡ t → outer read f (if t then Ok ([], bytes) else grown (b ∷ []) (cut_at 58 bytes)) ≡ inner f (read (b ∷ bytes))) [
      | true ↦ λ same. ap (λ r. r >>= (λ a. f a.0 a.1 bytes)) none
          ∙ sym (ap (inner f) (on bytes ∙ ap (λ r. r >>= (λ m. said_before 255 m (cut_at 46 bytes))) (stop same)))
      | false ↦ λ other. grown_on b read digit f on (cut_at 58 bytes)
          ∙ swap (cut_at 58 bytes) digit (λ p m. said_before 255 m (cut_at 46 p.0) >>= (λ a. f a.0 a.1 p.1)) (cut_fault 58 bytes) fault
          ∙ (λ i. digit >>= (λ m. others m i))
          ∙ sym (join digit (λ m. said_before 255 m (cut_at 46 bytes)) (λ a. cut_at 58 a.1 >>= (λ p. f a.0 p.0 p.1)))
          ∙ sym (ap (inner f) (on bytes))
    ] refl

-- what a reading does at the dot
dotted_on : {Z : Type 0} (n : ℕ) (f : ℕ → List ℕ → List ℕ → Result Z LineFault) (parts : Result (List ℕ × List ℕ) LineFault)
    → outer (λ x. said_before 255 n (cut_at 46 x)) f (grown (46 ∷ []) parts) ≡ (parts >>= (λ p. said 255 n [] >>= (λ v. f v p.0 p.1)))
dotted_on n f (Ok p) = join (said 255 n []) (λ v. Ok (v, p.0)) (λ a. f a.0 a.1 p.1)
dotted_on n f (Err e) = refl

at_dot : {Z : Type 0} (n : ℕ) (f : ℕ → List ℕ → List ℕ → Result Z LineFault) (bytes : List ℕ)
    → outer (λ x. said_before 255 n (cut_at 46 x)) f (cut_at 58 (46 ∷ bytes)) ≡ inner f (said_before 255 n (cut_at 46 (46 ∷ bytes)))
at_dot n f bytes =
    dotted_on n f (cut_at 58 bytes)
    ∙ swap (cut_at 58 bytes) (said 255 n []) (λ p v. f v p.0 p.1) (cut_fault 58 bytes) (chosen_fault (nat_le n 255) n)
    ∙ sym (join (said 255 n []) (λ v. Ok (v, bytes)) (λ a. cut_at 58 a.1 >>= (λ p. f a.0 p.0 p.1)))

-- the digits up to the dot come before the colon, or there is a fault
digits_first : {Z : Type 0} (f : ℕ → List ℕ → List ℕ → Result Z LineFault) (bytes : List ℕ) (n : ℕ)
    → outer (λ x. said_before 255 n (cut_at 46 x)) f (cut_at 58 bytes) ≡ inner f (said_before 255 n (cut_at 46 bytes))
digits_first f [] n = refl
digits_first f (b ∷ bytes) n =
    elim (b == 46) as (λ t. (b == 46) ≡ t
    → outer (λ x. said_before 255 n (cut_at 46 x)) f (cut_at 58 (b ∷ bytes)) ≡ inner f (said_before 255 n (cut_at 46 (b ∷ bytes)))) [
      | true ↦ λ dot. rw (eqb-true b 46 dot) (at_dot n f bytes)
      | false ↦ λ other. along b bytes (λ x. said_before 255 n (cut_at 46 x)) (with_digit 255 n b) f (digit_fault 255 n b)
          (λ x. before_at 46 255 n b x other) refl
          (λ colon. no_digit 58 255 n b refl colon) (λ m. digits_first f bytes m)
    ] refl

number_first : {Z : Type 0} (f : ℕ → List ℕ → List ℕ → Result Z LineFault) (word : List ℕ)
    → outer (number_before 46 255) f (cut_at 58 word) ≡ inner f (number_before 46 255 word)
number_first f [] = rw (first_none 46 255 [] refl) refl
number_first f (b ∷ bytes) =
    along b bytes (number_before 46 255) (with_digit 255 0 b) f (digit_fault 255 0 b) (λ x. first_byte 46 255 b x refl) (first_none 46 255 [] refl)
    (λ colon. no_digit 58 255 0 b refl colon) (λ m. digits_first f bytes m)

-- what follows three numbers: the last one, and the port
abbrev last_of : ℕ → ℕ → ℕ → List ℕ → List ℕ → Result End LineFault
last_of a b c digits tail = do
  d ← number_of 255 digits
  port ← number_of 65535 tail
  Ok (record { addr = V4 (((a * 256 + b) * 256 + c) * 256 + d); port = port })

abbrev third_of : ℕ → ℕ → List ℕ → List ℕ → Result End LineFault
third_of a b bytes tail = number_before 46 255 bytes >>= (λ c. last_of a b c.0 c.1 tail)

abbrev second_of : ℕ → List ℕ → List ℕ → Result End LineFault
second_of a bytes tail = number_before 46 255 bytes >>= (λ b. third_of a b.0 b.1 tail)

cut_first : (word : List ℕ) → v4_end word ≡ outer (number_before 46 255) second_of (cut_at 58 word)
unfolding v4_end v4_read v4_front
cut_first word =
    (λ i. cut_at 58 word >>= (λ p. v4_is p.0 i >>= (λ addr. number_of 65535 p.1 >>= (λ port. Ok (record { addr = V4 addr; port = port })))))
    ∙ simp join

cut_last : (word : List ℕ) → outer (number_before 46 255) second_of (cut_at 58 word)
    ≡ (number_before 46 255 word >>= (λ a. number_before 46 255 a.1 >>= (λ b. inner (last_of a.0 b.0) (number_before 46 255 b.1))))
cut_last word =
    number_first second_of word
    ∙ (λ i. number_before 46 255 word >>= (λ a. number_first (third_of a.0) a.1 i))
    ∙ (λ i. number_before 46 255 word >>= (λ a. number_before 46 255 a.1 >>= (λ b. number_first (last_of a.0 b.0) b.1 i)))

-- the last number is read up to the colon
colon_read : {Z : Type 0} (bytes : List ℕ) (f : ℕ → List ℕ → Result Z LineFault)
    → (number_before 58 255 bytes >>= (λ d. f d.0 d.1)) ≡ (cut_at 58 bytes >>= (λ p. number_of 255 p.0 >>= (λ d. f d p.1)))
unfolding number_before
colon_read bytes f = simp join

read_on : (word : List ℕ) → v4_end_read word
    ≡ (number_before 46 255 word >>= (λ a. number_before 46 255 a.1 >>= (λ b. number_before 46 255 b.1 >>= (λ c. number_before 58 255 c.1 >>= (λ d.
    number_of 65535 d.1 >>= (λ port. Ok (record { addr = V4 (((a.0 * 256 + b.0) * 256 + c.0) * 256 + d.0); port = port })))))))
unfolding v4_end_read v4_front
read_on word = simp join

pub v4_end_is : (word : List ℕ) → v4_end word ≡ v4_end_read word
v4_end_is word =
    cut_first word ∙ cut_last word
    ∙ sym (read_on word
    ∙ (λ i. number_before 46 255 word >>= (λ a. number_before 46 255 a.1 >>= (λ b. number_before 46 255 b.1 >>= (λ c.
    colon_read c.1 (λ d tail. number_of 65535 tail >>= (λ port. Ok (record { addr = V4 (((a.0 * 256 + b.0) * 256 + c.0) * 256 + d); port = port }))) i)))))
