-- Texts of lists, element by element.
use Rattle.std.proofs.Common.{◌≡◌, ℕ, ◌+◌, ◌<◌, List, [], ◌∷◌, ◌++◌, length, take, drop, get_or, ap, sym, ◌∙◌, append_assoc}
use Rattle.std.specs.List.{flat_map}
use Rattle.std.proofs.lemmas.List.{take_more, flat_map_more, take-append-drop}
use Rattle.std.proofs.lemmas.List.Concat.{flat_map-append}

-- one element more
pub text_more : {X : Type 0} (text : X → List ℕ) (xs : List X) (i : ℕ) (x d : X) → x ≡ get_or xs i d → i < length xs →
    flat_map text (take i xs) ++ text x ≡ flat_map text (take (i + 1) xs)
text_more text xs i x d here within =
    flat_map_more text [] (take i xs) x ∙ ap (flat_map text) (ap (λ y. take i xs ++ y ∷ []) here ∙ sym (take_more xs i d within))

-- the text of all elements goes on after that of the first ones
pub text_split : {X : Type 0} (text : X → List ℕ) (xs : List X) (i : ℕ) (first last : List ℕ) →
    first ++ (flat_map text xs ++ last) ≡ (first ++ flat_map text (take i xs)) ++ (flat_map text (drop i xs) ++ last)
text_split text xs i first last =
    ap (λ t. first ++ (t ++ last)) (sym (ap (flat_map text) (take-append-drop i xs)) ∙ flat_map-append text (take i xs) (drop i xs))
    ∙ (ap (λ t. first ++ t) (append_assoc (flat_map text (take i xs)) (flat_map text (drop i xs)) last)
    ∙ sym (append_assoc first (flat_map text (take i xs)) (flat_map text (drop i xs) ++ last)))

-- the text of one element more is appended to a text
pub pushed_more : {X : Type 0} (line : X → List ℕ) (xs : List X) (i : ℕ) (x d : X) (first so_far now : List ℕ) →
    so_far ≡ first ++ flat_map line (take i xs) → now ≡ so_far ++ line x → x ≡ get_or xs i d → i < length xs →
    now ≡ first ++ flat_map line (take (i + 1) xs)
pushed_more line xs i x d first so_far now before pushed here within =
    pushed ∙ (ap (λ text. text ++ line x) before
    ∙ (append_assoc first (flat_map line (take i xs)) (line x) ∙ ap (λ text. first ++ text) (text_more line xs i x d here within)))

-- the text of the first element is appended to a text, before those of the others
pub pushed_next : {X : Type 0} (line : X → List ℕ) (xs rest : List X) (x : X) (so_far now : List ℕ) → xs ≡ x ∷ rest → now ≡ so_far ++ line x →
    now ++ flat_map line rest ≡ so_far ++ flat_map line xs
pushed_next line xs rest x so_far now is pushed =
    ap (λ text. text ++ flat_map line rest) pushed ∙ (append_assoc so_far (line x) (flat_map line rest) ∙ ap (λ ys. so_far ++ flat_map line ys) (sym is))

-- parts that are appended to a text, one after another
pub pushed_two : (first a b one two : List ℕ) → one ≡ first ++ a → two ≡ one ++ b → two ≡ first ++ (a ++ b)
pushed_two first a b one two e f = f ∙ (ap (λ text. text ++ b) e ∙ append_assoc first a b)

-- five parts
pub pushed_five : (first a b c d e one two three four five : List ℕ) →
    one ≡ first ++ a → two ≡ one ++ b → three ≡ two ++ c → four ≡ three ++ d → five ≡ four ++ e → five ≡ first ++ ((((a ++ b) ++ c) ++ d) ++ e)
pushed_five first a b c d e one two three four five h i j k l =
    pushed_two first (((a ++ b) ++ c) ++ d) e four five
    (pushed_two first ((a ++ b) ++ c) d three four (pushed_two first (a ++ b) c two three (pushed_two first a b one two h i) j) k) l

-- six parts
pub pushed_six : (first a b c d e f one two three four five six : List ℕ) →
    one ≡ first ++ a → two ≡ one ++ b → three ≡ two ++ c → four ≡ three ++ d → five ≡ four ++ e → six ≡ five ++ f
    → six ≡ first ++ (((((a ++ b) ++ c) ++ d) ++ e) ++ f)
pushed_six first a b c d e f one two three four five six h i j k l m =
    pushed_two first ((((a ++ b) ++ c) ++ d) ++ e) f five six (pushed_five first a b c d e one two three four five h i j k l) m

-- a name after a space
pub pushed_name : (space name text with_space now : List ℕ) → space ≡ 32 ∷ [] → with_space ≡ text ++ space → now ≡ with_space ++ name → now ≡ text ++ 32 ∷ name
pushed_name space name text with_space now is one two = two ∙ ap (λ t. t ++ name) (one ∙ ap (λ s. text ++ s) is) ∙ append_assoc text (32 ∷ []) name
