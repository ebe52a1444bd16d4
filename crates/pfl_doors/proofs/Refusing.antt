-- What is judged to be a request is one, or no line of a session.
use Rattle.std.proofs.Common.{◌≡◌, ◌≢◌, ℕ, ◌+◌, ◌<◌, Bool, true, false, List, [], ◌∷◌, ◌++◌, length, refl, subst, sym, ◌∙◌, ap, arith, append_assoc, suc, take, drop, Option, Some, None, inl, inr}
use Rattle.std.specs.Prelude.{◌⊎◌, ◌||◌, ◌&&◌, ◌==◌, nat_lt, codes}
use Rattle.std.specs.Char.{is_ascii_digit}
use Rattle.std.specs.List.{AllByRecursion}
use Rattle.std.specs.Option.{unwrap_or}
use Rattle.std.proofs.lemmas.Bool.{and_parts, cases_Bool, eqb-true, ltb-false, ltb-true}
use Rattle.std.proofs.lemmas.List.{take-append-drop}
use Rattle.pfl_doors.specs.Requests.{is_command, is_comment, is_word_byte, word_length, begins, judged}
use Rattle.pfl_doors.specs.Requests.{judged_line, judged_after, judged_target, judged_version, judged_then, judged_digit}
use Rattle.pfl_doors.specs.Laws.{IsWord, BeginsRequest, BeginsForeign, IsLong, OthersAreTaken}

-- the word that bytes begin with
word_of : (bytes : List ℕ) → IsWord (take (word_length bytes) bytes)
word_of [] = tt
word_of (b ∷ bytes) = elim (cases_Bool (is_word_byte b)) [
  | inl word ↦ let next : 1 + word_length bytes ≡ suc (word_length bytes) = omega arith in rw (word, next) (word, word_of bytes)
  | inr other ↦ rw other tt
]

-- bytes that begin with a text
begins_with : (text bytes : List ℕ) → begins text bytes ≡ Some true → bytes ≡ text ++ drop (length text) bytes
begins_with [] bytes h = refl
begins_with (c ∷ text) [] h = absurd (cc)
begins_with (c ∷ text) (b ∷ bytes) h = elim (cases_Bool (b == c)) [
  | inl same ↦
      let is : b ≡ c = eqb-true b c same in
      let rest : bytes ≡ text ++ drop (length text) bytes = begins_with text bytes (rw same at h) in cc
  | inr other ↦ let no = rw other at h in absurd (cc)
]

-- a version, with which the line ends
record Version (bytes : List ℕ) : Type 0 where
  digit : ℕ
  end : ℕ
  rest : List ℕ
  is_digit : is_ascii_digit digit ≡ true
  ends : (end ≡ 13) ⊎ (end ≡ 10)
  is : bytes ≡ codes " HTTP/1." ++ digit ∷ end ∷ rest

ends_by : (b : ℕ) → (b == 13 || b == 10) ≡ true → (b ≡ 13) ⊎ (b ≡ 10)
ends_by b h = elim (cases_Bool (b == 13)) [ inl is ↦ inl (eqb-true b 13 is) | inr other ↦ inr (eqb-true b 10 (rw other at h)) ]

version_after : (bytes more : List ℕ) → bytes ≡ codes " HTTP/1." ++ more → judged_digit more ≡ Some true → Version bytes
version_after bytes [] is h = absurd (cc)
version_after bytes (d ∷ []) is h = elim (cases_Bool (is_ascii_digit d)) [
  | inl digit ↦ let no = rw digit at h in absurd (cc)
  | inr other ↦ let no = rw other at h in absurd (cc)
]
version_after bytes (d ∷ b ∷ more) is h = elim (cases_Bool (is_ascii_digit d)) [
  | inl digit ↦
      let last : Some (b == 13 || b == 10) ≡ Some true = rw digit at h in
      let end : (b == 13 || b == 10) ≡ true = cc in record { digit = d; end = b; rest = more; is_digit = digit; ends = ends_by b end; is = is }
  | inr other ↦ let no = rw other at h in absurd (cc)
]

version_by : (bytes : List ℕ) (first : Option Bool) → begins (codes " HTTP/1.") bytes ≡ first
    → judged_then first (judged_digit (drop 8 bytes)) ≡ Some true → Version bytes
version_by bytes None is h = absurd (cc)
version_by bytes (Some false) is h = absurd (cc)
version_by bytes (Some true) is h = version_after bytes (drop 8 bytes) (begins_with (codes " HTTP/1.") bytes is) h

version_of : (bytes : List ℕ) → judged_version bytes ≡ Some true → Version bytes
version_of bytes h = version_by bytes _ refl h

-- what a request's bytes begin with, where a line of a session may begin with its method
request_of : (method more : List ℕ) → IsWord method → 0 < length method → judged_version (drop (word_length more) more) ≡ Some true
    → BeginsRequest (method ++ 32 ∷ 47 ∷ more)
request_of method more word some h =
    let target = take (word_length more) more in
    let v = version_of (drop (word_length more) more) h in
    let parts : more ≡ target ++ (codes " HTTP/1." ++ v.digit ∷ v.end ∷ v.rest) = sym (take-append-drop (word_length more) more) ∙ ap (λ rest. target ++ rest) v.is in
    record {
      line = method ++ codes " /" ++ target ++ codes " HTTP/1." ++ v.digit ∷ [];
      end = v.end;
      rest = v.rest;
      is_line = record {
        method = method;
        target = target;
        digit = v.digit;
        is_method = word;
        some = some;
        is_target = word_of more;
        is_digit = v.is_digit;
        is = refl;
      };
      ends = v.ends;
      is = ap (λ rest. method ++ 32 ∷ 47 ∷ rest) parts ∙ sym (simp append_assoc);
    }

abbrev Either : List ℕ → Type 0
Either bytes = BeginsRequest bytes ⊎ BeginsForeign bytes

target_parts : (word rest : List ℕ) → IsWord word → 0 < length word → judged_target word rest ≡ Some true → Either (word ++ 32 ∷ rest)
target_parts word [] is some h = absurd (cc)
target_parts word (b ∷ rest) is some h = elim (cases_Bool (b == 47)) [
  | inl slash ↦
      let slash_is : b ≡ 47 = eqb-true b 47 slash in
      elim (cases_Bool (is_comment word || is_command word)) [
        | inl own ↦ rw slash_is (inl (request_of word rest is some (rw (slash, own) at h)))
        | inr foreign ↦
            inr (record { word = word; rest = rest; is_word = is; some = some; foreign = foreign; is = rw slash_is (sym (simp append_assoc)) })
      ]
  | inr other ↦ let no = rw other at h in absurd (cc)
]

after_parts : (word rest : List ℕ) → IsWord word → judged_after word rest ≡ Some true → Either (word ++ rest)
after_parts word [] is h = absurd (cc)
after_parts word (b ∷ rest) is h = elim (cases_Bool (nat_lt 0 (length word) && b == 32)) [
  | inl space ↦
      let both = and_parts (nat_lt 0 (length word)) (b == 32) space in
      let space_is : b ≡ 32 = eqb-true b 32 both.1 in
      rw space_is (target_parts word rest is (ltb-true 0 (length word) both.0) (rw space at h))
  | inr other ↦ let no = rw other at h in absurd (cc)
]

line_parts : (bytes : List ℕ) → judged_line bytes ≡ Some true → Either bytes
line_parts bytes h =
    subst (λ (all : List ℕ). Either all) (take-append-drop (word_length bytes) bytes)
    (after_parts (take (word_length bytes) bytes) (drop (word_length bytes) bytes) (word_of bytes) h)

-- what is left open has no line end
abbrev Endless : List ℕ → Type 0
Endless = AllByRecursion (λ b. b ≢ 10)

endless-append : (xs ys : List ℕ) → Endless xs → Endless ys → Endless (xs ++ ys)
endless-append [] ys hx hy = hy
endless-append (x ∷ xs) ys hx hy = (hx.0, endless-append xs ys hx.1 hy)

endless-word : (word : List ℕ) → IsWord word → Endless word
endless-word [] is = tt
endless-word (b ∷ word) is = (λ end. let no = rw end at is.0 in absurd (cc), endless-word word is.1)

-- the part of a text that bytes have begun has no line end, since the text has none
endless-begun : (text bytes : List ℕ) → Endless text → begins text bytes ≡ None → Endless bytes
endless-begun [] bytes all h = absurd (cc)
endless-begun (c ∷ text) [] all h = tt
endless-begun (c ∷ text) (b ∷ bytes) all h = elim (cases_Bool (b == c)) [
  | inl same ↦ (λ end. all.0 (sym (eqb-true b c same) ∙ end), endless-begun text bytes all.1 (rw same at h))
  | inr other ↦ let no = rw other at h in absurd (cc)
]

endless-digit : (bytes : List ℕ) → judged_digit bytes ≡ None → Endless bytes
endless-digit [] h = tt
endless-digit (d ∷ []) h = elim (cases_Bool (is_ascii_digit d)) [
  | inl digit ↦ (λ end. let no = rw end at digit in absurd (cc), tt)
  | inr other ↦ let no = rw other at h in absurd (cc)
]
endless-digit (d ∷ b ∷ more) h = elim (cases_Bool (is_ascii_digit d)) [
  | inl digit ↦ let no = rw digit at h in absurd (cc)
  | inr other ↦ let no = rw other at h in absurd (cc)
]

version-endless : Endless (codes " HTTP/1.")
version-endless = (λ e. absurd (cc), (λ e. absurd (cc), (λ e. absurd (cc), (λ e. absurd (cc), (λ e. absurd (cc), (λ e. absurd (cc), (λ e. absurd (cc), (λ e. absurd (cc), tt))))))))

endless-version_by : (bytes : List ℕ) (first : Option Bool) → begins (codes " HTTP/1.") bytes ≡ first
    → judged_then first (judged_digit (drop 8 bytes)) ≡ None → Endless bytes
endless-version_by bytes None is h = endless-begun (codes " HTTP/1.") bytes version-endless is
endless-version_by bytes (Some false) is h = absurd (cc)
endless-version_by bytes (Some true) is h =
    rw (begins_with (codes " HTTP/1.") bytes is) (endless-append (codes " HTTP/1.") (drop 8 bytes) version-endless (endless-digit (drop 8 bytes) h))

endless-split : (n : ℕ) (bytes : List ℕ) → Endless (take n bytes) → Endless (drop n bytes) → Endless bytes
endless-split n bytes front back = subst (λ (all : List ℕ). Endless all) (take-append-drop n bytes) (endless-append (take n bytes) (drop n bytes) front back)

endless-target : (word rest : List ℕ) → judged_target word rest ≡ None → Endless rest
endless-target word [] h = tt
endless-target word (b ∷ rest) h = elim (cases_Bool (b == 47)) [
  | inl slash ↦ elim (cases_Bool (is_comment word || is_command word)) [
    | inl own ↦ (
      λ end. let no = rw end at slash in absurd (cc),
      endless-split (word_length rest) rest (endless-word (take (word_length rest) rest) (word_of rest))
          (endless-version_by (drop (word_length rest) rest) _ refl (rw (slash, own) at h)),
    )
    | inr foreign ↦ let no = rw (slash, foreign) at h in absurd (cc)
  ]
  | inr other ↦ let no = rw other at h in absurd (cc)
]

endless-after : (word rest : List ℕ) → judged_after word rest ≡ None → Endless rest
endless-after word [] h = tt
endless-after word (b ∷ rest) h = elim (cases_Bool (nat_lt 0 (length word) && b == 32)) [
  | inl space ↦
      let is : b ≡ 32 = eqb-true b 32 (and_parts (nat_lt 0 (length word)) (b == 32) space).1 in
      (λ end. let no : 32 ≡ 10 = sym is ∙ end in absurd (cc), endless-target word rest (rw space at h))
  | inr other ↦ let no = rw other at h in absurd (cc)
]

endless-line : (bytes : List ℕ) → judged_line bytes ≡ None → Endless bytes
endless-line bytes h =
    endless-split (word_length bytes) bytes (endless-word (take (word_length bytes) bytes) (word_of bytes))
    (endless-after (take (word_length bytes) bytes) (drop (word_length bytes) bytes) h)

-- what begins a text begins each that goes on from it
either-more : (xs ys : List ℕ) → Either xs → Either (xs ++ ys)
either-more xs ys (inl b) =
    inl (record {
      line = b.line;
      end = b.end;
      rest = b.rest ++ ys;
      is_line = b.is_line;
      ends = b.ends;
      is = ap (λ all. all ++ ys) b.is ∙ append_assoc b.line (b.end ∷ b.rest) ys;
    })
either-more xs ys (inr b) =
    inr (record {
      word = b.word;
      rest = b.rest ++ ys;
      is_word = b.is_word;
      some = b.some;
      foreign = b.foreign;
      is = ap (λ all. all ++ ys) b.is ∙ append_assoc (b.word ++ codes " /") b.rest ys;
    })

joined : (bytes : List ℕ) → Either bytes → BeginsRequest bytes ⊎ (BeginsForeign bytes ⊎ IsLong bytes)
joined bytes (inl b) = inl b
joined bytes (inr b) = inr (inl b)

long_parts : (bytes : List ℕ) (first : Option Bool) → 512 < length bytes → judged_line (take 513 bytes) ≡ first → unwrap_or first true ≡ true
    → BeginsRequest bytes ⊎ (BeginsForeign bytes ⊎ IsLong bytes)
long_parts bytes None long is h = inr (inr (long, endless-line (take 513 bytes) is))
long_parts bytes (Some true) long is h =
    joined bytes (subst (λ (all : List ℕ). Either all) (take-append-drop 513 bytes) (either-more (take 513 bytes) (drop 513 bytes) (line_parts (take 513 bytes) is)))
long_parts bytes (Some false) long is h = absurd (cc)

said : (v : Option Bool) → unwrap_or v false ≡ true → v ≡ Some true
said None h = absurd (cc)
said (Some true) h = refl
said (Some false) h = absurd (cc)

pub only_so : OthersAreTaken
unfolding judged
only_so bytes h = elim (cases_Bool (nat_lt (length bytes) 513)) [
  | inl few ↦ joined bytes (line_parts bytes (said _ (rw few at h)))
  | inr over ↦
      let past = ltb-false (length bytes) 513 over in
      let long : 512 < length bytes = omega (arith, past) in long_parts bytes _ long refl (rw over at h)
]
