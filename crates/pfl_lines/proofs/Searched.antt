-- The parts of a text are read one by one, and each further one is a choice, or begins the next phase.
use Rattle.std.proofs.Common.{◌≡◌, ℕ, ◌+◌, ◌<◌, ◌≤◌, ◌≢◌, Bool, true, false, List, [], ◌∷◌, ◌++◌, length, Result, Ok, Err, refl, ap, ◌∙◌}
use Rattle.std.proofs.Common.{subst, arith, append_assoc, append-nil, length-append, eq-eqb, ne_eqb}
use Rattle.std.specs.Prelude.{suc, ◌==◌, if◌then◌else◌}
use Rattle.pfl_language.specs.declared.choice.Choice.{Choice}
use Rattle.pfl_lines.specs.declared.fault.LineFault.{LineFault}
use Rattle.pfl_lines.specs.declared.fault.LineFault.TheVariants.{Extra}
use Rattle.pfl_lines.specs.Numbers.{cut_at, grown}
use Rattle.pfl_lines.specs.Words.{words, with_first}
use Rattle.pfl_lines.specs.Readings.{◌>>=◌}
use Rattle.pfl_lines.specs.Search.{parts_of, choice_of, says_then, each_choice, choices_of}

-- ---- parts

-- a text is cut in one way
one_way : (read : Result (List ℕ × List ℕ) LineFault) (x y : List ℕ × List ℕ) → read ≡ Ok x → read ≡ Ok y → x ≡ y
one_way read x y e f = cc

cut_more : (b : ℕ) (bytes part rest : List ℕ) (t : Bool) (r : Result (List ℕ × List ℕ) LineFault) →
    ((p q : List ℕ) → r ≡ Ok (p, q) → parts_of bytes ≡ p ∷ parts_of q) →
    (if t then Ok ([], bytes) else grown (b ∷ []) r) ≡ Ok (part, rest) →
    (if t then [] ∷ parts_of bytes else with_first b (parts_of bytes)) ≡ part ∷ parts_of rest
cut_more b bytes part rest true r behind e =
    ap (λ (y : List ℕ × List ℕ). y.0 ∷ parts_of y.1) (one_way (Ok ([], bytes)) ([], bytes) (part, rest) refl e)
cut_more b bytes part rest false (Ok x) behind e =
    let same = one_way (grown (b ∷ []) (Ok x)) (b ∷ x.0, x.1) (part, rest) refl e in
    rw (behind x.0 x.1 refl) (ap (λ (y : List ℕ × List ℕ). y.0 ∷ parts_of y.1) same)
cut_more b bytes part rest false (Err f) behind e = cc

-- the first part ends with the first semicolon
pub parts-cut : (text part rest : List ℕ) → cut_at 59 text ≡ Ok (part, rest) → parts_of text ≡ part ∷ parts_of rest
parts-cut [] part rest e = cc
parts-cut (b ∷ bytes) part rest e = cut_more b bytes part rest (b == 59) (cut_at 59 bytes) (parts-cut bytes) e

whole_more : (b : ℕ) (bytes : List ℕ) (fault : LineFault) (t : Bool) (r : Result (List ℕ × List ℕ) LineFault) →
    ((f : LineFault) → r ≡ Err f → parts_of bytes ≡ bytes ∷ []) →
    (if t then Ok ([], bytes) else grown (b ∷ []) r) ≡ Err fault →
    (if t then [] ∷ parts_of bytes else with_first b (parts_of bytes)) ≡ (b ∷ bytes) ∷ []
whole_more b bytes fault true r whole e = cc
whole_more b bytes fault false (Ok x) whole e = cc
whole_more b bytes fault false (Err f) whole e = rw (whole f refl) refl

-- a text with no semicolon is one part
pub parts-whole : (text : List ℕ) (fault : LineFault) → cut_at 59 text ≡ Err fault → parts_of text ≡ text ∷ []
parts-whole [] fault e = refl
parts-whole (b ∷ bytes) fault e = whole_more b bytes fault (b == 59) (cut_at 59 bytes) (parts-whole bytes) e

shorter_more : (b n : ℕ) (bytes part rest : List ℕ) (t : Bool) (r : Result (List ℕ × List ℕ) LineFault) → length bytes ≤ n →
    ((p q : List ℕ) → r ≡ Ok (p, q) → length q < n) →
    (if t then Ok ([], bytes) else grown (b ∷ []) r) ≡ Ok (part, rest) → length rest < suc n
shorter_more b n bytes part rest true r h less e =
    subst (λ (y : List ℕ × List ℕ). length y.1 < suc n) (one_way (Ok ([], bytes)) ([], bytes) (part, rest) refl e) (omega arith)
shorter_more b n bytes part rest false (Ok x) h less e =
    let same = one_way (grown (b ∷ []) (Ok x)) (b ∷ x.0, x.1) (part, rest) refl e in
    let shorter : length x.1 < n = less x.0 x.1 refl in
    subst (λ (y : List ℕ × List ℕ). length y.1 < suc n) same (omega arith)
shorter_more b n bytes part rest false (Err f) h less e = cc

-- what follows a separator is shorter
pub cut-shorter : (separator : ℕ) (text part rest : List ℕ) → cut_at separator text ≡ Ok (part, rest) → length rest < length text
cut-shorter separator [] part rest e = cc
cut-shorter separator (b ∷ bytes) part rest e =
    shorter_more b (length bytes) bytes part rest (b == separator) (cut_at separator bytes) (omega arith) (cut-shorter separator bytes) e

-- ---- choices

-- choices that were taken, and what the parts after them say
abbrev after : List Choice → Result (List Choice) LineFault → Result (List Choice) LineFault
after taken others = others >>= λ cs. Ok (taken ++ cs)

-- of all parts, these are left in that phase, once those choices are taken
pub record AreLeft (all parts : List (List ℕ)) (taken : List Choice) (phase : ℕ) : Type 0 where
  pub says : choices_of all ≡ after taken (each_choice (length taken) phase parts)

-- nothing is taken yet
pub none-taken : (all : List (List ℕ)) → AreLeft all all [] 0
none-taken all = record { says = on (choices_of all) } where
  on : (said : Result (List Choice) LineFault) → said ≡ after [] said
  on (Ok cs) = refl
  on (Err f) = refl

-- none is left
pub all-taken : (all : List (List ℕ)) (taken : List Choice) (phase : ℕ) → AreLeft all [] taken phase → choices_of all ≡ Ok taken
unfolding each_choice
all-taken all taken phase are = are.says ∙ rw append-nil refl

-- the next phase begins
pub next-phase : (all parts : List (List ℕ)) (taken : List Choice) (phase : ℕ) (part : List ℕ) → AreLeft all (part ∷ parts) taken phase →
    says_then (words part) ≡ true → phase ≢ 15 → AreLeft all parts taken (phase + 1)
unfolding each_choice
next-phase all parts taken phase part are says more = record { says = are.says ∙ rw (says, ne_eqb phase 15 more) refl }

-- a 17th phase is one too many
pub phase_too_many : (all parts : List (List ℕ)) (taken : List Choice) (phase : ℕ) (part : List ℕ) → AreLeft all (part ∷ parts) taken phase →
    says_then (words part) ≡ true → phase ≡ 15 → choices_of all ≡ Err Extra
unfolding each_choice
phase_too_many all parts taken phase part are says last = are.says ∙ rw (says, eq-eqb phase 15 last) refl

-- a 17th choice is one too many
pub choice_too_many : (all parts : List (List ℕ)) (taken : List Choice) (phase : ℕ) (part : List ℕ) → AreLeft all (part ∷ parts) taken phase →
    says_then (words part) ≡ false → (length taken == 16) ≡ true → choices_of all ≡ Err Extra
unfolding each_choice
choice_too_many all parts taken phase part are says full = are.says ∙ rw (says, full) refl

-- a choice has a fault
pub choice-fault : (all parts : List (List ℕ)) (taken : List Choice) (phase : ℕ) (part : List ℕ) (fault : LineFault) →
    AreLeft all (part ∷ parts) taken phase → says_then (words part) ≡ false → (length taken == 16) ≡ false →
    choice_of phase (words part) ≡ Err fault → choices_of all ≡ Err fault
unfolding each_choice
choice-fault all parts taken phase part fault are says room read = are.says ∙ rw (says, room, read) refl

taken_more : (taken : List Choice) (choice : Choice) (others : Result (List Choice) LineFault) →
    after taken (others >>= λ cs. Ok (choice ∷ cs)) ≡ after (taken ++ choice ∷ []) others
taken_more taken choice (Ok cs) = rw append_assoc refl
taken_more taken choice (Err f) = refl

-- one choice more is taken
pub next-choice : (all parts : List (List ℕ)) (taken : List Choice) (phase : ℕ) (part : List ℕ) (choice : Choice) →
    AreLeft all (part ∷ parts) taken phase → says_then (words part) ≡ false → (length taken == 16) ≡ false →
    choice_of phase (words part) ≡ Ok choice → AreLeft all parts (taken ++ choice ∷ []) phase
unfolding each_choice
next-choice all parts taken phase part choice are says room read = record {
  says = are.says ∙ rw (length-append taken (choice ∷ []), says, room, read) (taken_more taken choice (each_choice (length taken + 1) phase parts));
}
