-- The line of an excision is written piece by piece.
use Rattle.std.proofs.Common.{◌≡◌, ℕ, ◌+◌, ◌<◌, ◌≤◌, List, [], ◌++◌, length, take, get_or, refl, ap, sym, subst, ◌∙◌, Option, codes}
use Rattle.std.specs.Io.KnownBytes.{Appends}
use Rattle.std.specs.List.{flat_map}
use Rattle.std.proofs.lemmas.List.{take_all, append-nil}
use Rattle.pfl_timeline.specs.Replies.{Excised}
use Rattle.pfl_script.specs.Replies.{placed, reply_text}
use Rattle.pfl_script.specs.inner.Texts.{WritesAllBut}
use Rattle.pfl_script.proofs.Lists.{pushed_more}
use Rattle.pfl_script.proofs.Pieces.{all-but-less, all-but-more, all-but-part}

-- the line up to the i-th place
abbrev pub line_to : List ℕ → ℕ → List ℕ
line_to places i = codes "excised" ++ flat_map placed (take i places)

-- one place more stands after what is left of the piece
pub placed-more : (a b c : Option (List ℕ)) (places : List ℕ) (i place : ℕ) (piece rest now : List ℕ) →
    WritesAllBut a b (line_to places i) piece → WritesAllBut b c piece rest → now ≡ rest ++ placed place → place ≡ get_or places i 0 → i < length places →
    WritesAllBut a c (line_to places (i + 1)) now
placed-more a b c places i place piece rest now h less pushed here within =
    subst (λ (line : List ℕ). WritesAllBut a c line now)
    (pushed_more placed places i place 0 (codes "excised") (line_to places i) _ refl refl here within)
    (rw pushed (all-but-more a c (line_to places i) rest (placed place) (all-but-less a b c (line_to places i) piece rest h less)))

-- of the last piece with the line feed a part was written
pub placed-part : (a b c : Option (List ℕ)) (places : List ℕ) (i : ℕ) (piece now : List ℕ) (n : ℕ) →
    WritesAllBut a b (line_to places i) piece → length places ≤ i → now ≡ piece ++ codes "\n" → n ≤ length now → Appends b c (take n now) →
    (m : ℕ) × Appends a c (take m (reply_text (Excised places)))
placed-part a b c places i piece now n h all pushed few part =
    let text : codes "excised" ++ flat_map placed places ≡ line_to places i =
    ap (λ (ps : List ℕ). codes "excised" ++ flat_map placed ps) (sym (take_all i places all)) in
    all-but-part a b c (line_to places i ++ codes "\n") now [] _ n
    (rw pushed (all-but-more a b (line_to places i) piece (codes "\n") h))
    (ap (λ (t : List ℕ). t ++ codes "\n") text ∙ sym (append-nil (line_to places i ++ codes "\n"))) few part
