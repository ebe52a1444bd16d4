-- A tape that has grown: what is new is above the length that it had.
use Rattle.std.proofs.Common.{◌≡◌, ◌≤◌, List, ◌++◌, length, sym, ◌∙◌, ap, arith, length-append}
use Rattle.std.proofs.lemmas.List.{take-append-drop}
use Rattle.pfl_edits.specs.Tapes.{above, below}

-- a tape that has the edits below has what is above them appended
pub split : {E : Type 0} (old new : List E) → below (length old) new ≡ old → new ≡ old ++ above (length old) new
split {E = E} old new kept = sym (take-append-drop (length old) new) ∙ ap (λ (es : List E). es ++ above (length old) new) kept

-- and is no shorter
pub no_shorter : {E : Type 0} (old new : List E) → below (length old) new ≡ old → length old ≤ length new
no_shorter old new kept = omega (arith, ap length (split old new kept), length-append old (above (length old) new))
