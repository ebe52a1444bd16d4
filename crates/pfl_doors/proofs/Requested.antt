-- What begins as a request does is judged to be one.
use Rattle.std.proofs.Common.{◌≡◌, ℕ, ◌<◌, true, false, List, [], ◌∷◌, ◌++◌, length, refl, ◌∙◌, ap, arith, append_assoc, take, drop, Option, Some, None, inl, inr}
use Rattle.std.specs.Prelude.{Bool, ◌⊎◌, ◌||◌, nat_lt, codes}
use Rattle.std.specs.Char.{is_ascii_digit}
use Rattle.std.specs.Option.{unwrap_or}
use Rattle.std.proofs.lemmas.Bool.{cases_Bool}
use Rattle.std.proofs.lemmas.Bool.Decides.{nat_tests}
use Rattle.std.proofs.lemmas.List.{take-append-drop}
use Rattle.std.proofs.Math.Seq.{take-append_seam, drop-append_seam}
use Rattle.pfl_doors.specs.Requests.{is_command, is_comment, is_word_byte, word_length, judged}
use Rattle.pfl_doors.specs.Requests.{judged_line, judged_target, judged_version}
use Rattle.pfl_doors.specs.Laws.{IsWord, BeginsRequest, RequestsAreTurnedAway}
use Rattle.pfl_doors.proofs.Screening.{judged_line-more}

-- a word ends before a byte that is none of a word
word_ends : (word : List ℕ) (b : ℕ) (rest : List ℕ) → IsWord word → is_word_byte b ≡ false → word_length (word ++ b ∷ rest) ≡ length word
word_ends [] b rest all other = rw other refl
word_ends (w ∷ word) b rest all other = rw all.0 (omega (arith, word_ends word b rest all.1 other))

-- a version, with which the line ends
version : (digit end : ℕ) (rest : List ℕ) → is_ascii_digit digit ≡ true → (end ≡ 13) ⊎ (end ≡ 10)
    → judged_version (codes " HTTP/1." ++ digit ∷ end ∷ rest) ≡ Some true
version digit end rest number ends = rw number (elim ends [ inl is ↦ rw is refl | inr is ↦ rw is refl ])

-- what is left of a request's line after its method and the space
target_of : (method target more : List ℕ) → IsWord target → judged_version (32 ∷ more) ≡ Some true
    → judged_target method (47 ∷ target ++ 32 ∷ more) ≡ Some true
target_of method target more word versions = elim (cases_Bool (is_comment method || is_command method)) [
  | inl own ↦ rw (own, word_ends target 32 more word refl, drop-append_seam target (32 ∷ more)) versions
  | inr foreign ↦ rw foreign refl
]

line_of : (method more : List ℕ) → IsWord method → 0 < length method → judged_target method more ≡ Some true → judged_line (method ++ 32 ∷ more) ≡ Some true
line_of method more word some targets =
    let long : nat_lt 0 (length method) ≡ true = grind (arith, nat_tests, some) in
    rw (word_ends method 32 more word refl, take-append_seam method (32 ∷ more), drop-append_seam method (32 ∷ more)) (rw long targets)

-- the line of a request is judged to be one
parts_of : (method target : List ℕ) (digit end : ℕ) (rest : List ℕ) → IsWord method → 0 < length method → IsWord target → is_ascii_digit digit ≡ true
    → (end ≡ 13) ⊎ (end ≡ 10) → judged_line (method ++ 32 ∷ 47 ∷ (target ++ (codes " HTTP/1." ++ digit ∷ end ∷ rest))) ≡ Some true
parts_of method target digit end rest is_method some is_target is_digit ends =
    let more : List ℕ = codes "HTTP/1." ++ digit ∷ end ∷ rest in
    line_of method (47 ∷ target ++ 32 ∷ more) is_method some (target_of method target more is_target (version digit end rest is_digit ends))

line_is : (bytes : List ℕ) → BeginsRequest bytes → judged_line bytes ≡ Some true
line_is bytes b =
    let l = b.is_line in
    let flat : bytes ≡ l.method ++ 32 ∷ 47 ∷ (l.target ++ (codes " HTTP/1." ++ l.digit ∷ b.end ∷ b.rest)) = rw (b.is, l.is) (simp append_assoc) in
    ap judged_line flat ∙ parts_of l.method l.target l.digit b.end b.rest l.is_method l.some l.is_target l.is_digit b.ends

-- so is what begins with it, however long it is
whole : (first : Option Bool) (bytes : List ℕ) → judged_line bytes ≡ Some true → judged_line (take 513 bytes) ≡ first → unwrap_or first true ≡ true
whole None bytes h is = refl
whole (Some v) bytes h is =
    let more : judged_line bytes ≡ Some v = rw (take-append-drop 513 bytes) at (judged_line-more (take 513 bytes) (drop 513 bytes) v is) in cc

is_judged : (bytes : List ℕ) → judged_line bytes ≡ Some true → judged bytes ≡ Some true
unfolding judged
is_judged bytes h = elim (cases_Bool (nat_lt (length bytes) 513)) [
  | inl few ↦ rw few h
  | inr over ↦ rw (over, whole _ bytes h refl) refl
]

pub turned_away : RequestsAreTurnedAway
turned_away bytes b = rw (is_judged bytes (line_is bytes b)) refl
