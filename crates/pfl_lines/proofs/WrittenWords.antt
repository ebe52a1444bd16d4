-- Words that are joined by one space are the words of that line.
use Rattle.std.proofs.Common.{◌≡◌, ℕ, ◌+◌, ◌<◌, ◌≤◌, true, false, List, [], ◌∷◌, ◌++◌, length, refl, ◌∙◌, ap, arith, le-leb, leb-true, ne_eqb, le-ltb}
use Rattle.std.proofs.Common.{length-append}
use Rattle.std.specs.Prelude.{⊤, Ok, Err, nat_le, not, ◌==◌, ◌||◌, if◌then◌else◌}
use Rattle.std.specs.List.{list_all, join_with_byte}
use Rattle.std.proofs.lemmas.List.Folds.{list_all-append}
use Rattle.std.proofs.Math.Bool.{or-true}
use Rattle.pfl_lines.specs.declared.fault.LineFault.TheVariants.{Long, NotAscii}
use Rattle.pfl_lines.specs.Commands.{is_text, checked}
use Rattle.pfl_lines.specs.Laws.{is_mark}
use Rattle.pfl_lines.specs.Words.{words, is_blank, with_first}
use Rattle.pfl_lines.proofs.WrittenNumbers.{and-first, and-second, and-both, all_weaker}

-- a word of at most this many bytes
pub record IsPlain (most : ℕ) (word : List ℕ) : Type 0 where
  pub some : 0 < length word
  pub short : length word ≤ most
  pub marks : list_all is_mark word ≡ true

-- words, each of at most this many bytes
abbrev pub ArePlain : List ℕ → List (List ℕ) → Type 0
ArePlain [] [] = ⊤
ArePlain (most ∷ bounds) (word ∷ ws) = IsPlain most word × ArePlain bounds ws
ArePlain _ _ = ⊥

mark_is : (b : ℕ) → is_mark b ≡ true → is_blank b ≡ false
mark_is b is =
    let h : 33 ≤ b = leb-true 33 b (and-first _ _ is) in
    ap (λ t. t || (b == 9)) (ne_eqb b 32 (λ e. absurd (omega arith))) ∙ ne_eqb b 9 (λ e. absurd (omega arith))

-- one word to the end
words_one : (b : ℕ) (w : List ℕ) → list_all is_mark (b ∷ w) ≡ true → words (b ∷ w) ≡ (b ∷ w) ∷ []
words_one b [] marks = ap (λ t. if t then [] else (b ∷ []) ∷ []) (mark_is b (and-first _ _ marks))
words_one b (c ∷ w) marks =
    let e : is_blank b ≡ false = mark_is b (and-first _ _ marks) in
    let rest : list_all is_mark (c ∷ w) ≡ true = and-second (is_mark b) _ marks in
    let f : is_blank c ≡ false = mark_is c (and-first _ _ rest) in
    ap (λ t. if t then words (c ∷ w) else if not (is_blank c) then with_first b (words (c ∷ w)) else (b ∷ []) ∷ words (c ∷ w)) e
    ∙ ap (λ t. if not t then with_first b (words (c ∷ w)) else (b ∷ []) ∷ words (c ∷ w)) f
    ∙ ap (with_first b) (words_one c w rest)

-- one word in front of a space
words_next : (b : ℕ) (w bytes : List ℕ) → list_all is_mark (b ∷ w) ≡ true → words (b ∷ w ++ 32 ∷ bytes) ≡ (b ∷ w) ∷ words bytes
words_next b [] bytes marks = ap (λ t. if t then words bytes else (b ∷ []) ∷ words bytes) (mark_is b (and-first _ _ marks))
words_next b (c ∷ w) bytes marks =
    let e : is_blank b ≡ false = mark_is b (and-first _ _ marks) in
    let rest : list_all is_mark (c ∷ w) ≡ true = and-second (is_mark b) _ marks in
    let f : is_blank c ≡ false = mark_is c (and-first _ _ rest) in
    ap (λ t. if t then words (c ∷ w ++ 32 ∷ bytes) else if not (is_blank c) then with_first b (words (c ∷ w ++ 32 ∷ bytes))
    else (b ∷ []) ∷ words (c ∷ w ++ 32 ∷ bytes)) e
    ∙ ap (λ t. if not t then with_first b (words (c ∷ w ++ 32 ∷ bytes)) else (b ∷ []) ∷ words (c ∷ w ++ 32 ∷ bytes)) f
    ∙ ap (with_first b) (words_next c w bytes rest)

first_word : (most : ℕ) (word bytes : List ℕ) → IsPlain most word → words (word ++ 32 ∷ bytes) ≡ word ∷ words bytes
first_word most [] bytes is = let h : 0 < 0 = is.some in absurd (omega arith)
first_word most (b ∷ w) bytes is = words_next b w bytes is.marks

last_word : (most : ℕ) (word : List ℕ) → IsPlain most word → words word ≡ word ∷ []
last_word most [] is = let h : 0 < 0 = is.some in absurd (omega arith)
last_word most (b ∷ w) is = words_one b w is.marks

pub words-joined : (bounds : List ℕ) (ws : List (List ℕ)) → ArePlain bounds ws → words (join_with_byte 32 ws) ≡ ws
words-joined bounds [] all = refl
words-joined (most ∷ bounds) (w ∷ []) all = last_word most w all.0
words-joined (most ∷ bounds) (w ∷ v ∷ ws) all = first_word most w (join_with_byte 32 (v ∷ ws)) all.0 ∙ ap (λ vs. w ∷ vs) (words-joined bounds (v ∷ ws) all.1)
words-joined [] (w ∷ ws) all = absurd all

-- ---- the line has no more bytes than the bounds allow, and all are text

abbrev pub room : List ℕ → ℕ
room [] = 0
room (most ∷ bounds) = most + 1 + room bounds

pub length-joined : (bounds : List ℕ) (ws : List (List ℕ)) → ArePlain bounds ws → length (join_with_byte 32 ws) ≤ room bounds
length-joined bounds [] all = omega arith
length-joined (most ∷ bounds) (w ∷ []) all = let h : length w ≤ most = all.0.short in omega arith
length-joined (most ∷ bounds) (w ∷ v ∷ ws) all =
    let h : length w ≤ most = all.0.short in
    let rest : length (join_with_byte 32 (v ∷ ws)) ≤ room bounds = length-joined bounds (v ∷ ws) all.1 in
    omega (arith, length-append w (32 ∷ join_with_byte 32 (v ∷ ws)))
length-joined [] (w ∷ ws) all = absurd all

mark_is_text : (b : ℕ) → is_mark b ≡ true → is_text b ≡ true
mark_is_text b is =
    let low : 33 ≤ b = leb-true 33 b (and-first _ _ is) in
    let high : b ≤ 126 = leb-true b 126 (and-second (nat_le 33 b) _ is) in
    ap (λ t. (b == 9) || t) (and-both (nat_le 32 b) (nat_le b 126) (le-leb 32 b (omega arith)) (le-leb b 126 high)) ∙ or-true (b == 9)

plain_text : (most : ℕ) (w : List ℕ) → IsPlain most w → list_all is_text w ≡ true
plain_text most w is = all_weaker is_mark is_text mark_is_text w is.marks

pub text-joined : (bounds : List ℕ) (ws : List (List ℕ)) → ArePlain bounds ws → list_all is_text (join_with_byte 32 ws) ≡ true
text-joined bounds [] all = refl
text-joined (most ∷ bounds) (w ∷ []) all = plain_text most w all.0
text-joined (most ∷ bounds) (w ∷ v ∷ ws) all =
    list_all-append is_text w (32 ∷ join_with_byte 32 (v ∷ ws))
    ∙ and-both (list_all is_text w) (list_all is_text (32 ∷ join_with_byte 32 (v ∷ ws))) (plain_text most w all.0) (text-joined bounds (v ∷ ws) all.1)
text-joined [] (w ∷ ws) all = absurd all

pub checked-joined : (bounds : List ℕ) (ws : List (List ℕ)) → ArePlain bounds ws → room bounds ≤ 512
    → checked (join_with_byte 32 ws) ≡ Ok (join_with_byte 32 ws)
checked-joined bounds ws all short =
    let line : List ℕ = join_with_byte 32 ws in
    let few : length line ≤ room bounds = length-joined bounds ws all in
    ap (λ t. if t then Err Long else if list_all is_text line then Ok line else Err NotAscii) (le-ltb 512 (length line) (omega arith))
    ∙ ap (λ t. if t then Ok line else Err NotAscii) (text-joined bounds ws all)
