-- Edits that are taken back for a while, and what is kept of them, by which they can be redone. This project's profile.
--
-- E is the type of the edits, U that of what is kept of one, S that of the value that they change: `undone e` is what is kept of e.
use Rattle.std.specs.Prelude.{◌≡◌, List, [], ◌∷◌, ◌++◌}
use Rattle.pfl_edits.specs.Changes.{back, Fits}

-- what is kept of the edits, the newest first
abbrev pub set_aside : {E U : Type 0} → (E → U) → List E → List U
set_aside undone [] = []
set_aside undone (e ∷ es) = set_aside undone es ++ undone e ∷ []

-- this is kept of an edit whose former value is in its place, and its new value is allowed there
pub record IsUndone {S E U : Type 0} (finds_former : E → S → Type 0) (allows : S → Type 0) (redone : E → S → S) (undone : E → U) (kept : U)
    (s : S) : Type 0 where
  pub edit : E
  pub kept_of : undone edit ≡ kept
  pub finds : finds_former edit s
  pub allowed : allows (redone edit s)

-- this is kept of edits that led from the value to one that is allowed
pub record AreUndone {S E U : Type 0} (finds : E → S → Type 0) (allows : S → Type 0) (put_back : E → S → S) (undone : E → U)
    (kept : List U) (s : S) : Type 0 where
  pub edits : List E
  pub led_to : S
  pub kept_of : set_aside undone edits ≡ kept
  pub fits : Fits finds allows put_back edits led_to
  pub back : back put_back edits led_to ≡ s
  pub allowed : allows led_to
