-- Lists of seats that are served.
use Rattle.std.proofs.Common.{◌≡◌, ℕ, List, [], ◌∷◌, ◌++◌, length, map, sym, ◌∙◌, arith}
use Rattle.std.proofs.lemmas.List.{append-nil, append_assoc, map-append}
use Rattle.pfl_base.specs.declared.output.Output as Output
use Rattle.pfl_session.specs.declared.which.Which as Which
use Rattle.pfl_serve.specs.Seats.{IsServed, AreServed}
use Rattle.pfl_serve.specs.declared.seat.Seat.{Seat}
use Rattle.pfl_serve.specs.declared.seat.Served.{Served}

module _ {K A I W : Type 0} (j : Which.Ghosts K) (o : Output.Ghosts W) (heard : ℕ → Type 0) where
  -- one more seat is served
  pub AreServed-push : (olds : List (Seat A I W)) (ss : List (Served A I W)) (old : Seat A I W) (s : Served A I W)
      → AreServed j o heard olds ss → IsServed j o heard old s → AreServed j o heard (olds ++ old ∷ []) (ss ++ s ∷ [])
  AreServed-push [] [] old s are is = (is, tt)
  AreServed-push [] (t ∷ ts) old s are is = absurd are
  AreServed-push (first ∷ olds) [] old s are is = absurd are
  AreServed-push (first ∷ olds) (t ∷ ts) old s are is = (are.0, AreServed-push olds ts old s are.1 is)

-- the first of what is left stands last among what was taken
pub taken-more : {X Y : Type 0} (f : X → Y) (xs : List X) (x : X) (y : Y) (left all : List Y)
    → f x ≡ y → map f xs ++ y ∷ left ≡ all → map f (xs ++ x ∷ []) ++ left ≡ all
taken-more f xs x y left all is split = rw (map-append, append_assoc, is) split

-- all was taken where nothing is left
pub taken-all : {Y : Type 0} (xs left all : List Y) → length left ≡ 0 → xs ++ left ≡ all → xs ≡ all
taken-all xs [] all none split = sym (append-nil xs) ∙ split
taken-all xs (y ∷ left) all none split = absurd (omega arith)
