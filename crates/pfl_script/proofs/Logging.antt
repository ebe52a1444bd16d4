-- The lines of events, one after another.
use Rattle.std.proofs.Common.{◌≡◌, ℕ, ◌+◌, ◌<◌, ◌≤◌, List, ◌++◌, length, get_or, drop, ap, sym, ◌∙◌, append_assoc, append-nil}
use Rattle.std.proofs.lemmas.List.{at_drop_more, drop_all}
use Rattle.pfl_language.specs.declared.event.Event.{Event}
use Rattle.pfl_script.specs.Logs.{logged_line, logged_lines}

-- the line of the next event goes onto the text
pub logged_next : (name : List ℕ) (es : List Event) (i : ℕ) (e : Event) (first so_far now : List ℕ) → i < length es → e ≡ get_or es i e
    → so_far ++ logged_lines name i (drop i es) ≡ first → now ≡ so_far ++ logged_line name (i + 1) e
    → now ++ logged_lines name (i + 1) (drop (i + 1) es) ≡ first
unfolding logged_lines
logged_next name es i e first so_far now within here before pushed =
    let rest : List ℕ = logged_lines name (i + 1) (drop (i + 1) es) in
    ap (λ text. text ++ rest) pushed
    ∙ append_assoc so_far (logged_line name (i + 1) e) rest
    ∙ ap (λ (x : Event). so_far ++ (logged_line name (i + 1) x ++ rest)) here
    ∙ sym (ap (λ text. so_far ++ text) (at_drop_more (logged_lines name i) es i e within))
    ∙ before

-- all lines stand in the text
pub logged_all : (name : List ℕ) (es : List Event) (i : ℕ) (first now : List ℕ) → length es ≤ i → now ++ logged_lines name i (drop i es) ≡ first → now ≡ first
unfolding logged_lines
logged_all name es i first now all whole = sym (append-nil now) ∙ sym (ap (λ (rest : List Event). now ++ logged_lines name i rest) (drop_all i es all)) ∙ whole
