-- What is left to give while it is found out who sends it.
use Rattle.std.proofs.Common.{◌≡◌, ℕ, ◌+◌, ◌-◌, ◌<◌, ◌≤◌, Bool, true, false, List, [], ◌∷◌, ◌++◌, length, length-append, refl, sym, ◌∙◌, arith, ap, append_assoc, take, drop, Option, Some, None, Ok, Err, inl, inr}
use Rattle.std.specs.Prelude.{◌&&◌, ◌||◌, ◌==◌, nat_lt, codes, Result}
use Rattle.std.specs.Char.{is_ascii_digit}
use Rattle.std.specs.Io.KnownBytes.{Consumes, Keeps, ReadConsumes}
use Rattle.std.proofs.lemmas.Bool.{cases_Bool, ltb-false, ltb-true}
use Rattle.std.proofs.lemmas.Bool.Decides.{nat_tests}
use Rattle.std.proofs.lemmas.List.{drop-append-le, drop-drop, take-append-drop, take-append-le}
use Rattle.std.proofs.Math.ListN.{drop_of_length-le}
use Rattle.std.proofs.Math.Seq.{take-append-add}
use Rattle.std.specs.Option.{option_map}
use Rattle.pfl_base.specs.declared.std_device.DeviceFault.{DeviceFault}
use Rattle.pfl_doors.specs.Requests.{is_command, is_comment, is_word_byte, word_length, begins, judged}
use Rattle.pfl_doors.specs.Requests.{judged_line, judged_after, judged_target, judged_version, judged_then, judged_digit, judged_end}
use Rattle.pfl_doors.specs.Screens.{left_after, screened}

-- a word that has ended goes on with nothing that comes later
word_more : (xs ys : List ℕ) → word_length xs < length xs → word_length (xs ++ ys) ≡ word_length xs
word_more [] ys h = absurd (omega (arith, h))
word_more (b ∷ xs) ys h = elim (cases_Bool (is_word_byte b)) [
  | inl word ↦ rw word (ap (λ n. 1 + n) (word_more xs ys (omega (arith, rw word at h))))
  | inr other ↦ rw other refl
]

-- what bytes say is said by all that begin with them
begins-more : (text xs ys : List ℕ) (v : Bool) → begins text xs ≡ Some v → begins text (xs ++ ys) ≡ Some v
begins-more [] xs ys v h = h
begins-more (c ∷ text) [] ys v h = absurd (cc)
begins-more (c ∷ text) (b ∷ xs) ys v h = elim (cases_Bool (b == c)) [
  | inl same ↦ rw same (begins-more text xs ys v (rw same at h))
  | inr other ↦ rw other (rw other at h)
]

begins-long : (text xs : List ℕ) → begins text xs ≡ Some true → length text ≤ length xs
begins-long [] xs h = omega arith
begins-long (c ∷ text) [] h = absurd (cc)
begins-long (c ∷ text) (b ∷ xs) h = elim (cases_Bool (b == c)) [
  | inl same ↦ let long = begins-long text xs (rw same at h) in omega (arith, long)
  | inr other ↦ let no = rw other at h in absurd (cc)
]

judged_end-more : (xs ys : List ℕ) (v : Bool) → judged_end xs ≡ Some v → judged_end (xs ++ ys) ≡ Some v
judged_end-more [] ys v h = absurd (cc)
judged_end-more (b ∷ xs) ys v h = h

judged_digit-more : (xs ys : List ℕ) (v : Bool) → judged_digit xs ≡ Some v → judged_digit (xs ++ ys) ≡ Some v
judged_digit-more [] ys v h = absurd (cc)
judged_digit-more (b ∷ xs) ys v h = elim (cases_Bool (is_ascii_digit b)) [
  | inl digit ↦ rw digit (judged_end-more xs ys v (rw digit at h))
  | inr other ↦ rw other (rw other at h)
]

judged_then-more : (text xs ys : List ℕ) (first : Option Bool) (v : Bool) → begins text xs ≡ first
    → judged_then first (judged_digit (drop (length text) xs)) ≡ Some v
    → judged_then (begins text (xs ++ ys)) (judged_digit (drop (length text) (xs ++ ys))) ≡ Some v
judged_then-more text xs ys None v is h = absurd (cc)
judged_then-more text xs ys (Some false) v is h = rw (begins-more text xs ys false is) h
judged_then-more text xs ys (Some true) v is h =
    rw (begins-more text xs ys true is, drop-append-le (length text) xs ys (begins-long text xs is)) (judged_digit-more (drop (length text) xs) ys v h)

judged_version-more : (xs ys : List ℕ) (v : Bool) → judged_version xs ≡ Some v → judged_version (xs ++ ys) ≡ Some v
judged_version-more xs ys v h = judged_then-more (codes " HTTP/1.") xs ys _ v refl h

-- nothing says nothing
judged_version-some : (n : ℕ) (xs : List ℕ) (v : Bool) → judged_version (drop n xs) ≡ Some v → n < length xs
judged_version-some n xs v h = elim (cases_Bool (nat_lt n (length xs))) [
  | inl within ↦ ltb-true n (length xs) within
  | inr over ↦
      let past : length xs ≤ n = ltb-false n (length xs) over in
      let no = rw (drop_of_length-le xs past) at h in absurd (cc)
]

judged_target-more : (word xs ys : List ℕ) (v : Bool) → judged_target word xs ≡ Some v → judged_target word (xs ++ ys) ≡ Some v
judged_target-more word [] ys v h = absurd (cc)
judged_target-more word (b ∷ xs) ys v h = elim (cases_Bool (b == 47)) [
  | inl slash ↦ elim (cases_Bool (is_comment word || is_command word)) [
    | inl own ↦
        let version = rw (slash, own) at h in
        let within = judged_version-some (word_length xs) xs v version in
        rw (slash, own, word_more xs ys within, drop-append-le (word_length xs) xs ys (omega (arith, within)))
        (judged_version-more (drop (word_length xs) xs) ys v version)
    | inr other ↦ rw (slash, other) (rw (slash, other) at h)
  ]
  | inr other ↦ rw other (rw other at h)
]

judged_after-more : (word xs ys : List ℕ) (v : Bool) → judged_after word xs ≡ Some v → judged_after word (xs ++ ys) ≡ Some v
judged_after-more word [] ys v h = absurd (cc)
judged_after-more word (b ∷ xs) ys v h = elim (cases_Bool (nat_lt 0 (length word) && b == 32)) [
  | inl space ↦ rw space (judged_target-more word xs ys v (rw space at h))
  | inr other ↦ rw other (rw other at h)
]

judged_after-some : (word : List ℕ) (n : ℕ) (xs : List ℕ) (v : Bool) → judged_after word (drop n xs) ≡ Some v → n < length xs
judged_after-some word n xs v h = elim (cases_Bool (nat_lt n (length xs))) [
  | inl within ↦ ltb-true n (length xs) within
  | inr over ↦
      let past : length xs ≤ n = ltb-false n (length xs) over in
      let no = rw (drop_of_length-le xs past) at h in absurd (cc)
]

pub judged_line-more : (xs ys : List ℕ) (v : Bool) → judged_line xs ≡ Some v → judged_line (xs ++ ys) ≡ Some v
judged_line-more xs ys v h =
    let within = judged_after-some (take (word_length xs) xs) (word_length xs) xs v h in
    let few : word_length xs ≤ length xs = omega (arith, within) in
    rw (word_more xs ys within, take-append-le (word_length xs) xs ys few, drop-append-le (word_length xs) xs ys few)
    (judged_after-more (take (word_length xs) xs) (drop (word_length xs) xs) ys v h)

-- the first bytes of two texts, of which the first one has no more
take-past : (n : ℕ) (xs ys : List ℕ) → length xs ≤ n → take n (xs ++ ys) ≡ xs ++ take (n - length xs) ys
take-past n xs ys h =
    let is : n ≡ length xs + (n - length xs) = omega (arith, h) in ap (λ k. take k (xs ++ ys)) is ∙ take-append-add xs ys (n - length xs)

pub judged-more : (xs ys : List ℕ) (v : Bool) → judged xs ≡ Some v → judged (xs ++ ys) ≡ Some v
unfolding judged
judged-more xs ys v h = elim (cases_Bool (nat_lt (length xs) 513)) [
  | inl few ↦
      let line = rw few at h in
      elim (cases_Bool (nat_lt (length (xs ++ ys)) 513)) [
        | inl still ↦ rw still (judged_line-more xs ys v line)
        | inr over ↦
            let short : length xs < 513 = ltb-true (length xs) 513 few in
            rw (over, take-past 513 xs ys (omega (arith, short)), judged_line-more xs (take (513 - length xs) ys) v line) refl
      ]
  | inr over ↦
      let long = ltb-false (length xs) 513 over in
      let longer : nat_lt (length (xs ++ ys)) 513 ≡ false = grind (arith, nat_tests, long, length-append xs ys) in
      rw (longer, take-append-le 513 xs ys long) (rw over at h)
]

-- bytes that say nothing are few
pub judged-few : (xs : List ℕ) → judged xs ≡ None → length xs ≤ 512
unfolding judged
judged-few xs h = elim (cases_Bool (nat_lt (length xs) 513)) [
  | inl few ↦ let short = ltb-true (length xs) 513 few in omega (arith, short)
  | inr over ↦ let no = rw over at h in absurd (cc)
]

-- what is taken of bytes of which this is known
screened-by : (v : Option Bool) (xs ys : List ℕ) → judged xs ≡ v → left_after None xs ys ≡ left_after v xs ys
screened-by None xs ys h = refl
screened-by (Some true) xs ys h = rw (judged-more xs ys true h) refl
screened-by (Some false) xs ys h = rw (judged-more xs ys false h) refl

-- a block more was read onto the front
pub front_read_on : (front bs : List ℕ) (old new : Option (List ℕ)) → Consumes old new bs
    → Keeps (option_map (left_after None front) old) (option_map (left_after (judged (front ++ bs)) (front ++ bs)) new)
front_read_on front bs None new h = tt
front_read_on front bs (Some xs) None h = absurd h
front_read_on front bs (Some xs) (Some ys) h =
    sym (screened-by (judged (front ++ bs)) (front ++ bs) ys refl) ∙ ap screened (append_assoc front bs ys ∙ ap (λ zs. front ++ zs) (sym h))

-- some bytes of the front were given
pub front_given : (items given : List ℕ) (from count : ℕ) → given ≡ take count (drop from items)
    → drop from items ≡ given ++ drop (from + count) items
front_given items given from count is = rw (is, sym (drop-drop count from items)) (sym (take-append-drop count (drop from items)))

-- the front was given: the device gives the rest
device_after : (old new : Option (List ℕ)) (r : Result ℕ DeviceFault) (buf : List ℕ) → ReadConsumes old new r buf
    → ReadConsumes (option_map (left_after (Some false) []) old) (option_map (left_after (Some false) []) new) r buf
device_after None None r buf reads = reads
device_after None (Some ys) r buf reads = reads
device_after (Some xs) None (Ok n) buf reads = absurd reads.0
device_after (Some xs) None (Err why) buf reads = absurd reads
device_after (Some xs) (Some ys) r buf reads = reads

pub device_read : (old new : Option (List ℕ)) (v : Option Bool) (front : List ℕ) (r : Result ℕ DeviceFault) (buf : List ℕ) → v ≡ Some false → front ≡ []
    → ReadConsumes old new r buf → ReadConsumes (option_map (left_after v front) old) (option_map (left_after v front) new) r buf
device_read old new v front r buf known none reads = rw (known, none) (device_after old new r buf reads)

-- how many bytes more may be read until it is known, and a block
abbrev pub undecided : Option Bool → List ℕ → ℕ
undecided None front = 514 - length front
undecided (Some v) front = 0

pub fewer : (v : Option Bool) (old new : List ℕ) → length old ≤ 512 → (v ≡ None → length old < length new) → undecided v new < undecided None old
fewer None old new few grows = omega (arith, few, grows refl)
fewer (Some v) old new few grows = omega (arith, few)
