-- Seats whose sessions have ended, and what is taken of them.
use Rattle.std.proofs.Common.{◌≡◌, ℕ, List, [], ◌∷◌, ◌++◌, length, map, refl, sym, ◌∙◌, arith, append_assoc}
use Rattle.std.specs.List.{AllByRecursion}
use Rattle.std.proofs.lemmas.List.{append-nil}
use Rattle.pfl_base.specs.declared.output.Output as Output
use Rattle.pfl_session.specs.Passes.{IsPassOf}
use Rattle.pfl_session.specs.declared.which.Which as Which
use Rattle.pfl_serve.specs.Seats.{AreServed}
use Rattle.pfl_serve.specs.Services.{pass_of}
use Rattle.pfl_serve.specs.declared.seat.Seat.{Seat}
use Rattle.pfl_serve.specs.declared.seat.Served.{Served}

-- one more was taken
pub mapped-more : {X Y : Type 0} (f : X → Y) (ys : List Y) (x : X) (left : List X) (all : List Y) → ys ++ map f (x ∷ left) ≡ all
    → (ys ++ f x ∷ []) ++ map f left ≡ all
mapped-more f ys x left all split = append_assoc ys (f x ∷ []) (map f left) ∙ split

-- all were taken where none is left
pub mapped-all : {X Y : Type 0} (f : X → Y) (ys : List Y) (left : List X) (all : List Y) → length left ≡ 0 → ys ++ map f left ≡ all → ys ≡ all
mapped-all f ys [] all none split = sym (append-nil ys) ∙ split
mapped-all f ys (x ∷ left) all none split = absurd (omega (arith, none))

module _ {K A I W : Type 0} (j : Which.Ghosts K) (o : Output.Ghosts W) (heard : ℕ → Type 0) where
  -- as many seats come back as there were
  pub served-many : (olds : List (Seat A I W)) (ss : List (Served A I W)) → AreServed j o heard olds ss → length ss ≡ length olds
  served-many [] [] are = refl
  served-many [] (s ∷ ss) are = absurd are
  served-many (old ∷ olds) [] are = absurd are
  served-many (old ∷ olds) (s ∷ ss) are = let rest = served-many olds ss are.1 in omega (arith, rest)

  -- their passes are still the lab's
  pub served-passes : (olds : List (Seat A I W)) (ss : List (Served A I W)) → AreServed j o heard olds ss
      → AllByRecursion (IsPassOf j.publisher j.tallies) (map pass_of ss)
  served-passes [] [] are = tt
  served-passes [] (s ∷ ss) are = absurd are
  served-passes (old ∷ olds) [] are = absurd are
  served-passes (old ∷ olds) (s ∷ ss) are = (are.0.lab, served-passes olds ss are.1)
