-- What a look at the publisher loads.
use Rattle.std.specs.Prelude.{◌≤◌, ℕ, List, Result, Ok, Err, IfOk, slice_index}
use Rattle.std.proofs.Common.{sym, subst}
use Rattle.pfl_publish.specs.Seats.{Viewer, IsRead, MakesTries}

-- the number that the words begin with was loaded first in the last try
pub loads-of : {H R E : Type 0} (words : R → List ℕ) (r : Result R E) (v w : Viewer H) (most : ℕ)
    → IfOk r (λ x. (n : ℕ) × (now : ℕ) × (count : ℕ) × IsRead v w (words x) n × MakesTries v w count n now × (count ≤ most))
    → IfOk r (λ x. (now : ℕ) × (count : ℕ) × MakesTries v w count (slice_index (words x) 0) now × (count ≤ most))
loads-of words (Ok x) v w most is = (is.1, is.2, subst (λ (m : ℕ). MakesTries v w is.2 m is.1) (sym is.3.revision.1) is.4, is.5)
loads-of words (Err e) v w most is = tt
