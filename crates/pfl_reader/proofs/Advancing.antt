-- What a reader's answer says once it is known whether there was a line.
use Rattle.std.proofs.Common.{◌≡◌, ℕ, Bool, true, false, List, Option, ◌∙◌, ap, subst}
use Rattle.pfl_reader.specs.Scans.{Kept, ReadsLine, IsOver, Gives}
use Rattle.pfl_reader.specs.Readers.{one_more, lines_after}

-- there was a line, and it is shown
pub gave-line : (old new : Option (List ℕ)) (more : Bool) (k shown : Kept) → Gives old new more k → more ≡ true → shown ≡ k → ReadsLine shown old new
gave-line old new more k shown gives is same = rw same (subst (λ (b : Bool). Gives old new b k) is gives)

-- there was none
pub gave-none : (old new : Option (List ℕ)) (more : Bool) (k : Kept) → Gives old new more k → more ≡ false → IsOver old new
gave-none old new more k gives is = subst (λ (b : Bool). Gives old new b k) is gives

-- a line was counted
pub counted-line : (old new : ℕ) (more : Bool) → new ≡ lines_after more old → more ≡ true → new ≡ one_more old
counted-line old new more after is = after ∙ ap (λ (b : Bool). lines_after b old) is

-- none was
pub counted-none : (old new : ℕ) (more : Bool) → new ≡ lines_after more old → more ≡ false → new ≡ old
counted-none old new more after is = after ∙ ap (λ (b : Bool). lines_after b old) is
