-- Changes as lists of edits, and what taking them back gives. This project's profile.
--
-- E is the type of the edits, S that of the value that they change. Three functions say what an edit means:
-- `finds e s` (s has e's new value in e's place), `put_back e s` (s with e's former value there) and `allows s`
-- (s is a value that its type may have). A list of edits has the oldest first.
use Rattle.std.specs.Prelude.{◌≡◌, ℕ, List, [], ◌∷◌}

-- what contracts see of a change: its edits, the oldest first, and for how many more there is room
pub record Edits (E : Type 0) : Type 0 where
  pub list : List E
  pub spare : ℕ

-- the value from before the edits: the newest is put back first
abbrev pub back : {S E : Type 0} → (E → S → S) → List E → S → S
back put_back [] s = s
back put_back (e ∷ es) s = put_back e (back put_back es s)

-- each edit, the newest first, finds its new value in its place, and each value so reached is allowed
abbrev pub Fits : {S E : Type 0} → (E → S → Type 0) → (S → Type 0) → (E → S → S) → List E → S → Type 0
Fits finds allows put_back [] s = Unit {0}
Fits finds allows put_back (e ∷ es) s = Fits finds allows put_back es s × finds e (back put_back es s) × allows (put_back e (back put_back es s))

-- the edits were made on the way from old to new: they fit new, and taken back they give old
pub record LeadsBack {S E : Type 0} (finds : E → S → Type 0) (allows : S → Type 0) (put_back : E → S → S) (es : List E) (old new : S) : Type 0 where
  pub fits : Fits finds allows put_back es new
  pub back : back put_back es new ≡ old

-- one edit knows both values of its place: put back and redone undo each other, and each leaves the value that it sets
pub record LeadsBothWays {S : Type 0} (finds_former finds : S → Type 0) (put_back redone : S → S) : Type 0 where
  pub put_back_finds : (s : S) → finds s → finds_former (put_back s)
  pub redone_finds : (s : S) → finds_former s → finds (redone s)
  pub redone_put_back : (s : S) → finds s → redone (put_back s) ≡ s
  pub put_back_redone : (s : S) → finds_former s → put_back (redone s) ≡ s
